-- The definitions of the nodes so far.
use Rattle.std.proofs.Common.{◌≡◌}
use Rattle.std.specs.List.{flat_map, range_with_len}
use Rattle.files_flow.specs.Definitions.{definitions_at, writes_of}
use Rattle.files_flow.proofs.definitions.definitions_of.Given as goal

abbrev pub invariant-loop-node : goal.invariant-loop-node
invariant-loop-node l =
    l.definitions.items ≡ flat_map (λ n. definitions_at n (writes_of l.nodes n)) (range_with_len 0 l.node)
