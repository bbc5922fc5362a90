-- The rules from here on are left.
use Rattle.std.proofs.Common.{drop}
use Rattle.vob_lr.specs.Equations.{GainEachRest}
use Rattle.vob_lr.specs.Heads.{HasHead}
use Rattle.vob_lr.proofs.first.add_rules.Given as goal

abbrev pub invariant-loop-rule : goal.invariant-loop-rule
invariant-loop-rule l =
    GainEachRest (HasHead l.nullable.bits l.grammar.rules.items)
    (HasHead l.nullable.bits (drop l.rule-index l.grammar.rules.items)) l.fn.equations l.equations
