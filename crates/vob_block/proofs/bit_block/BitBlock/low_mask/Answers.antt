-- No place, or every place moved down to the lowest ones.
use Rattle.std.proofs.Common.{ℕ, ◌+◌, ◌-◌, ◌&&◌, ltb, ap, subst, ◌∙◌}
use Rattle.vob_block.specs.Places.{place, HasPlaces}
use Rattle.vob_block.proofs.PlaceLemmas.{HasPlaces-mask_none, HasPlaces-mask}
use Rattle.vob_block.proofs.bit_block.BitBlock.low_mask.Goals as goal

pub returns-then-n-eq0-clause-places : goal.returns-then-n-eq0-clause-places
returns-then-n-eq0-clause-places g c =
    HasPlaces-mask_none g.Self.BitBlock.BITS _ c.args.n
    (ap g.Self.BitBlock.number c.ZERO.ensures ∙ g.met.Self.BitBlock.zero_number_law) c.if-n-eq0.true

pub returns-else-n-eq0-clause-places : goal.returns-else-n-eq0-clause-places
returns-else-n-eq0-clause-places g c =
    let number = g.Self.BitBlock.number in
    let w = g.Self.BitBlock.BITS in
    let all = ap number c.ONES.ensures ∙ g.met.Self.BitBlock.ones_number_law in
    let places = subst (λ (v : ℕ). HasPlaces w (number c.down.result)
    (λ j. ltb (j + (v - c.args.n)) w && place (j + (v - c.args.n)) (number c.ONES.result)))
    c.BITS.ensures c.down.ensures.places in
    HasPlaces-mask w (number c.ONES.result) (number c.down.result) c.args.n all c.requires places
