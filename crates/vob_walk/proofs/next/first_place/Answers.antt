-- The places from `from` on that are true in the block of the bits of the value.
use Rattle.std.proofs.Common.{◌∙◌, ap}
use Rattle.vob_walk.proofs.NextLemmas.{IsFirstPlace-none, IsFirstPlace-zeros}
use Rattle.vob_walk.proofs.next.first_place.Goals as goal

pub returns-then-is_zero : goal.returns-then-is_zero
returns-then-is_zero g c = IsFirstPlace-none _ _ _ _ _ _ _ _
    (ap g.T.BitBlock.number c.ONES.ensures ∙ g.met.T.BitBlock.ones_number_law)
    c.bits_of_value.ensures.places c.up.ensures.places c.band-head.ensures.places _ c.BITS.ensures
    c.requires (c.is_zero.ensures.0 c.if-is_zero.true)

pub returns-else-is_zero : goal.returns-else-is_zero
returns-else-is_zero g c = IsFirstPlace-zeros _ _ _ _ _ _ _ _
    (ap g.T.BitBlock.number c.ONES.ensures ∙ g.met.T.BitBlock.ones_number_law)
    c.bits_of_value.ensures.places c.up.ensures.places c.band-head.ensures.places _ c.requires
    c.zeros_low.ensures
