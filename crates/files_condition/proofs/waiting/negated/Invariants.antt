-- So many `!` were put around it.
use Rattle.std.proofs.Common.{◌≡◌}
use Rattle.files_condition.specs.Conditions.{tree_of}
use Rattle.files_condition.specs.Reading.{negate}
use Rattle.files_condition.proofs.waiting.negated.Given as goal

abbrev pub invariant-loop : goal.invariant-loop
invariant-loop l = tree_of l.made ≡ negate l.counter (tree_of l.fn.expression)
