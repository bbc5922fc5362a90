-- The bit's place in its block is what is stored there.
use Rattle.vob_store.proofs.StorageLemmas.{bit_is_at_place}
use Rattle.vob_store.proofs.single.block_bit.Goals as goal

pub returns : goal.returns
returns g c =
    bit_is_at_place g.T.BitBlock.number _ g.met.T.BitBlock.wide_law _ _ _ c.BITS-width.ensures
    c.requires _ _ c.index-blocks-index.is c.bit.ensures
