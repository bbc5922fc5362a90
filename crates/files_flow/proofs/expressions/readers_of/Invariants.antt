-- The expressions so far stand in the lists of what they read.
use Rattle.files_flow.specs.Problems.{lists_of}
use Rattle.files_flow.proofs.ExpressionLemmas.{AreTransposedBelow}
use Rattle.files_flow.proofs.expressions.readers_of.Given as goal

abbrev pub invariant-loop-number : goal.invariant-loop-number
invariant-loop-number l = AreTransposedBelow l.variables l.expressions l.number (lists_of l.lists.items)
