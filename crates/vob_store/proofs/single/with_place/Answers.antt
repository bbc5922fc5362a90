-- The mask is one place, so `|` marks it, and `&` with what it leaves clears it.
use Rattle.std.proofs.Common.{ap, ◌∙◌}
use Rattle.vob_block.proofs.PlaceLemmas.{mask-is}
use Rattle.vob_store.proofs.WriteLemmas.{HasPlaces-marked, HasPlaces-unmarked}
use Rattle.vob_store.proofs.single.with_place.Goals as goal

pub returns-then-value-clause-places : goal.returns-then-value-clause-places
returns-then-value-clause-places g c =
    let number = g.T.BitBlock.number in
    let w = g.T.BitBlock.BITS in
    let one = ap number c.ONE.ensures ∙ g.met.T.BitBlock.one_number_law in
    let mask = mask-is _ c.args.j c.requires _ _ one c.up-mask.ensures.within
    c.up-mask.ensures.places in
    HasPlaces-marked _ (number c.args.block) _ _ c.args.j _ c.if-value.true mask
    c.bor.ensures.places

pub returns-else-value-clause-places : goal.returns-else-value-clause-places
returns-else-value-clause-places g c =
    let number = g.T.BitBlock.number in
    let w = g.T.BitBlock.BITS in
    let one = ap number c.ONE.ensures ∙ g.met.T.BitBlock.one_number_law in
    let mask = mask-is _ c.args.j c.requires _ _ one c.up-mask.ensures.within
    c.up-mask.ensures.places in
    HasPlaces-unmarked _ (number c.args.block) _ _ _ c.args.j _ c.if-value.false mask
    c.bnot.ensures.places c.band.ensures.places
