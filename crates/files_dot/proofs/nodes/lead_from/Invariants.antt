-- The edges to the nodes so far.
use Rattle.std.proofs.Common.{◌≡◌, ◌++◌, map, take}
use Rattle.files_dot.specs.Held.{edges_of, names_of}
use Rattle.files_dot.proofs.nodes.lead_from.Given as goal

abbrev pub invariant-heads : goal.invariant-heads
invariant-heads l = edges_of l.edges.items
    ≡ edges_of l.initial.edges.items ++ map (λ head. (l.tail, head)) (names_of (take l.head-index l.heads))
