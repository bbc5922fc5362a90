-- The symbols of the rules so far.
use Rattle.std.proofs.Common.{◌≡◌, take}
use Rattle.vob_arrays.specs.Arrays.{right_numbers}
use Rattle.vob_arrays.proofs.build.right_of.Given as goal

abbrev pub invariant-loop-rule : goal.invariant-loop-rule
invariant-loop-rule l = l.right.items ≡ right_numbers l.terminals (take l.rule-index l.rules)
