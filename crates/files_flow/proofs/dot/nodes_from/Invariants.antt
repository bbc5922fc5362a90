-- The edges so far lead from the nodes in the lists.
use Rattle.std.proofs.Common.{take}
use Rattle.files_flow.specs.DotFlows.{AreFrom}
use Rattle.files_flow.specs.Problems.{lists_of}
use Rattle.files_flow.proofs.dot.nodes_from.Given as goal

abbrev pub invariant-loop-number : goal.invariant-loop-number
invariant-loop-number l = AreFrom l.count (take l.number l.edges) (lists_of l.before.items)
