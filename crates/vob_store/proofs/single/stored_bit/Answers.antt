-- The block is there, since there are as many as the bits need, and its place is the bit.
use Rattle.vob_store.proofs.StorageLemmas.{room_of, stored-bit}
use Rattle.vob_store.proofs.single.stored_bit.Goals as goal

pub block_bit-requires : goal.block_bit-requires
block_bit-requires g c = room_of g.T.BitBlock.number _ g.met.T.BitBlock.wide_law _ _ _
    c.requires.canonical c.requires.in_range

pub returns : goal.returns
returns g c = stored-bit c.args.len _ _ c.args.index c.requires.in_range c.block_bit.ensures
