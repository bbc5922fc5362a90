-- The nodes so far have the numbers of what they read and don't write.
use Rattle.std.specs.List.{AllZip}
use Rattle.std.proofs.Common.{ℕ, List, take}
use Rattle.vob_flow.specs.declared.live.Flow.{Flow}
use Rattle.files_flow.specs.Expressions.{IsLasting, IsOwn}
use Rattle.files_flow.specs.Problems.{lists_of}
use Rattle.files_flow.proofs.expressions.lasting.Given as goal

abbrev pub invariant-loop-node : goal.invariant-loop-node
invariant-loop-node l = (expressions : List (List ℕ)) →
    AllZip (λ (node : Flow). IsOwn expressions node.reads.items) l.nodes (lists_of l.own) →
    AllZip (IsLasting expressions) (take l.node l.nodes) (lists_of l.lists.items)
