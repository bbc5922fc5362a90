-- The nodes so far have those that come after them.
use Rattle.std.proofs.Common.{◌≡◌, map, take}
use Rattle.vob_flow.specs.declared.live.Flow.{Flow}
use Rattle.files_flow.specs.Available.{after_of}
use Rattle.files_flow.specs.Problems.{lists_of}
use Rattle.files_flow.proofs.expressions.nodes_after.Given as goal

abbrev pub invariant-loop-node : goal.invariant-loop-node
invariant-loop-node l =
    lists_of l.after.items ≡ take l.node (map (λ (node : Flow). after_of l.border node.next.items) l.nodes)
