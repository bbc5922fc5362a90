-- One rule more.
use Rattle.std.proofs.Common.{arith, subst, List, []}
use Rattle.std.proofs.lemmas.List.{take_all}
use Rattle.vob_lr.specs.Units.{GainEdges, IsByOne, IsUnitBy}
use Rattle.vob_lr.specs.declared.grammar.Rule.{Rule}
use Rattle.vob_lr.proofs.UnitLemmas.{GainEdges-more}
use Rattle.vob_lr.proofs.cycles.units.Goals as goal

pub loop-rule-preserved : goal.loop-rule-preserved
loop-rule-preserved c =
    GainEdges-more (IsUnitBy c.args.nullable.now.bits) c.args.rules.now c.loop-rule.rule-index c.rule-item.result _
    [] _ _ c.loop-rule-test.true c.rule-item.is c.loop-rule.invariant c.in_ok-add_units.ensures

pub returns : goal.returns
returns c =
    subst (λ (rules : List Rule). GainEdges (IsByOne (IsUnitBy c.args.nullable.now.bits) rules) []
    c.loop-rule.edges.items)
    (take_all c.loop-rule.rule-index c.args.rules.now (omega (arith, c.loop-rule-test.false))) c.loop-rule.invariant
