-- The places up to `upto` that are true in the block of the bits of the value.
use Rattle.std.proofs.Common.{arith}
use Rattle.vob_walk.proofs.NextLemmas.{IsLastPlace-none, IsLastPlace-zeros}
use Rattle.vob_walk.proofs.next.past_last_place.Goals as goal

pub returns-then-is_zero : goal.returns-then-is_zero
returns-then-is_zero g c = IsLastPlace-none g.T.BitBlock.BITS _ _ _ _ _ _ (omega arith)
    c.bits_of_value.ensures.places c.low_mask.ensures.places c.band-head.ensures.places
    (c.is_zero.ensures.0 c.if-is_zero.true)

pub returns-else-is_zero : goal.returns-else-is_zero
returns-else-is_zero g c = IsLastPlace-zeros g.T.BitBlock.BITS _ _ _ _ _ _ (omega arith)
    c.bits_of_value.ensures.places c.low_mask.ensures.places c.band-head.ensures.places _ _
    c.BITS.ensures c.zeros_high.ensures
