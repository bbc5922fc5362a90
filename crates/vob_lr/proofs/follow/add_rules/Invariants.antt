-- The rules from here on are left.
use Rattle.std.proofs.Common.{◌≡◌, drop, length}
use Rattle.vob_lr.specs.Behind.{HasBehind}
use Rattle.vob_lr.specs.Equations.{GainEachRest}
use Rattle.vob_lr.proofs.follow.add_rules.Given as goal

abbrev pub invariant-loop-rule : goal.invariant-loop-rule
invariant-loop-rule l =
    let rules = l.grammar.rules.items in
    record {
      len : length l.begins.bits ≡ length l.fn.begins.bits;
      rest : GainEachRest (HasBehind rules rules) (HasBehind rules (drop l.rule-index rules))
          l.fn.equations l.equations;
    }
