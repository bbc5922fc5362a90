-- One set more is negated.
use Rattle.std.proofs.Common.{◌∙◌, ap, refl, sym, arith}
use Rattle.vob_block.specs.Packing.{item}
use Rattle.vob_flow.specs.Changes.{IsOut}
use Rattle.vob_flow.proofs.ChangesLemmas.{EachBecomes-next, EachBecomes-none}
use Rattle.vob_flow.proofs.CountLemmas.{Becomes-negated}
use Rattle.vob_flow.proofs.complement.negate_each.Goals as goal

pub loop-set-init : goal.loop-set-init
loop-set-init c = (EachBecomes-none _ _, refl)

pub loop-set-preserved : goal.loop-set-preserved
loop-set-preserved c = (
  EachBecomes-next (IsOut c.args.sets.now.rows) c.loop-set.invariant.0
      (Becomes-negated c.loop-set.set (omega (arith, c.loop-set.invariant.0.shape.count))
      c.negate_row.ensures.rows) (λ row v.
      let bit = ap (λ bits. item bits v) row in ((λ p. bit ∙ p), (λ q. sym bit ∙ q))),
  c.negate_row.ensures.columns ∙ c.loop-set.invariant.1,
)
