-- The rules so far stay beside those that the others leave.
use Rattle.std.specs.Prelude.{◌≡◌, ◌++◌, drop}
use Rattle.files_grammar.specs.Conflicts.{left_by_error, decision_in}
use Rattle.files_grammar.proofs.conflicts.left_by_error.Given as goal

abbrev pub invariant-loop-place : goal.invariant-loop-place
invariant-loop-place l =
    l.left.items ++ left_by_error (decision_in l.file l.terminal) (drop l.place l.rules)
    ≡ left_by_error (decision_in l.file l.terminal) l.rules
