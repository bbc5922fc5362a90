-- The symbols of the rules so far.
use Rattle.std.proofs.Common.{◌≡◌, ◌+◌, map, take}
use Rattle.vob_arrays.proofs.build.left_of.Given as goal

abbrev pub invariant-loop-rule : goal.invariant-loop-rule
invariant-loop-rule l = l.left.items ≡ map (λ rule. l.terminals + rule.left) (take l.rule-index l.rules)
