-- One place of the bit's block is written, and the bit read there before says what changed.
use Rattle.vob_store.proofs.StorageLemmas.{block_there, bit_is_at_place, room_of, stored-bit}
use Rattle.vob_store.proofs.WriteLemmas.{write_at, offset_fits, changed_from}
use Rattle.vob_store.proofs.single.write_bit.Goals as goal

pub bounds-blocks-k : goal.bounds-blocks-k
bounds-blocks-k g c = block_there g.T.BitBlock.number _ g.met.T.BitBlock.wide_law _ _ _
    c.BITS-width.ensures (room_of g.T.BitBlock.number _ g.met.T.BitBlock.wide_law _ _ _
    c.requires.canonical c.requires.in_range)

pub offset_bounds-blocks-k : goal.offset_bounds-blocks-k
offset_bounds-blocks-k g c = offset_fits _ _ _ (bounds-blocks-k g c) c.well_formed.0.1

pub bounds-blocks-k-2 : goal.bounds-blocks-k-2
bounds-blocks-k-2 g c = block_there g.T.BitBlock.number _ g.met.T.BitBlock.wide_law _ _ _
    c.BITS-width.ensures (room_of g.T.BitBlock.number _ g.met.T.BitBlock.wide_law _ _ _
    c.requires.canonical c.requires.in_range)

pub offset_bounds-blocks-k-2 : goal.offset_bounds-blocks-k-2
offset_bounds-blocks-k-2 g c = offset_fits _ _ _ (bounds-blocks-k-2 g c) c.well_formed.0.1

pub returns : goal.returns
returns g c =
    let number = g.T.BitBlock.number in
    let room = room_of number _ g.met.T.BitBlock.wide_law _ _ _ c.requires.canonical
    c.requires.in_range in
    record {
      stores = write_at number _ g.met.T.BitBlock.wide_law _ _ c.requires.canonical _
          c.requires.in_range _ c.BITS-width.ensures _ _ _ c.index-blocks-k.is
          c.with_place.ensures.within c.with_place.ensures.places;
      changed = changed_from _ c.bit.result c.args.value (stored-bit c.args.len _ _ _
          c.requires.in_range (bit_is_at_place number _ g.met.T.BitBlock.wide_law _ _ _
          c.BITS-width.ensures room _ _ c.index-blocks-k.is c.bit.ensures));
    }
