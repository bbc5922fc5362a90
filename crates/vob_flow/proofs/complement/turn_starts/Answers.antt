-- One set more is what it lacks.
use Rattle.std.proofs.Common.{◌∙◌, ap, refl, sym}
use Rattle.vob_block.specs.Packing.{item}
use Rattle.vob_flow.specs.Changes.{IsLacking}
use Rattle.vob_flow.specs.Greatest.{mask_from}
use Rattle.vob_flow.proofs.ChangesLemmas.{EachBecomes-next, EachBecomes-none}
use Rattle.vob_flow.proofs.DrawLemmas.{fits_after}
use Rattle.vob_flow.proofs.complement.turn_starts.Goals as goal

pub loop-set-init : goal.loop-set-init
loop-set-init c = (EachBecomes-none _ _, refl)

pub turn_start-requires-clause-masks : goal.turn_start-requires-clause-masks
turn_start-requires-clause-masks c = fits_after c.args.masks c.requires
    c.loop-set.invariant.0.shape.count c.loop-set.invariant.1

pub loop-set-preserved : goal.loop-set-preserved
loop-set-preserved c = (
  EachBecomes-next (IsLacking (mask_from c.args.entry c.args.masks) c.args.sets.now.rows)
      c.loop-set.invariant.0 c.turn_start.ensures.lacking (λ row v.
      let bit = ap (λ bits. item bits v) row in
      ((λ p. (bit ∙ p.0, p.1)), (λ q. (sym bit ∙ q.0, q.1)))),
  c.turn_start.ensures.columns ∙ c.loop-set.invariant.1,
)
