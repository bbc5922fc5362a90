-- The nodes so far are among those that come before others.
use Rattle.std.proofs.Common.{length}
use Rattle.files_flow.specs.Problems.{lists_of}
use Rattle.files_flow.proofs.ExpressionLemmas.{AreTransposedBelow, chosen_next}
use Rattle.files_flow.proofs.expressions.chosen_before.Given as goal

abbrev pub invariant-loop-number : goal.invariant-loop-number
invariant-loop-number l =
    AreTransposedBelow (length l.nodes) (chosen_next l.nodes l.chosen.bits) l.number (lists_of l.before.items)
