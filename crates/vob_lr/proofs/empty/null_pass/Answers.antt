-- The left side of one rule more was added, or was there.
use Rattle.std.proofs.Common.{◌∙◌, sym}
use Rattle.vob_lr.specs.Passes.{HasNull}
use Rattle.vob_lr.proofs.GrowthLemmas.{AddsNull-more}
use Rattle.vob_lr.proofs.empty.null_pass.Goals as goal

pub loop-rule-preserved : goal.loop-rule-preserved
loop-rule-preserved c = record {
  len = c.add_null-grew.ensures.len ∙ c.loop-rule.invariant.len;
  long = c.add_null-grew.ensures.long ∙ c.loop-rule.invariant.long;
  adds = AddsNull-more HasNull c.args.rules.now c.loop-rule.rule-index
      c.rule-item.result _ _ _ _ _ c.loop-rule-test.true c.rule-item.is c.loop-rule.invariant.adds
      c.add_null-grew.ensures.adds;
  sound = λ sound. c.add_null-grew.ensures.sound c.args.rules.now
      (c.loop-rule.rule-index, c.loop-rule-test.true, sym c.rule-item.is)
      (c.loop-rule.invariant.sound sound);
  sized = λ sized. c.add_null-grew.ensures.sized c.args.rules.now
      (c.loop-rule.rule-index, c.loop-rule-test.true, sym c.rule-item.is)
      (c.loop-rule.invariant.sized sized);
}
