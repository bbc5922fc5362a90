-- The expressions so far have their labels.
use Rattle.std.proofs.Common.{◌≡◌, map, take}
use Rattle.files_flow.specs.Expressions.{expression_label}
use Rattle.files_flow.specs.Problems.{lists_of}
use Rattle.files_flow.proofs.expressions.expression_labels.Given as goal

abbrev pub invariant-loop-number : goal.invariant-loop-number
invariant-loop-number l =
    lists_of l.labels.items ≡ map (expression_label l.variables) (take l.number l.expressions)
