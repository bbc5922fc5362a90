-- The rules so far are sound.
use Rattle.std.proofs.Common.{◌≡◌, ℕ, ◌<◌, Some, slice_get}
use Rattle.vob_lr.specs.declared.grammar.Rule.{Rule}
use Rattle.vob_lr.specs.Faults.{IsRuleOf}
use Rattle.vob_lr.proofs.grammar.check_rules.Given as goal

abbrev pub invariant-loop-rule : goal.invariant-loop-rule
invariant-loop-rule l =
    (k : ℕ) (rule : Rule) → k < l.rule → slice_get l.grammar.rules.items k ≡ Some rule →
    IsRuleOf l.grammar rule
