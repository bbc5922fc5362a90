-- The mask is one place, so `^` negates that of the bit.
use Rattle.std.proofs.Common.{ap, ◌∙◌, ◌%◌, ◌<◌, mod-lt}
use Rattle.vob_block.proofs.PlaceLemmas.{mask-is}
use Rattle.vob_store.proofs.StorageLemmas.{block_there, bit_is_at_place, room_of, stored-bit}
use Rattle.vob_store.proofs.WriteLemmas.{write_at, offset_fits, place-flipped, HasPlaces-flipped}
use Rattle.vob_store.proofs.single.flip_bit.Goals as goal

pub bounds-blocks-k : goal.bounds-blocks-k
bounds-blocks-k g c = block_there g.T.BitBlock.number _ g.met.T.BitBlock.wide_law _ _ _
    c.BITS-width.ensures (room_of g.T.BitBlock.number _ g.met.T.BitBlock.wide_law _ _ _
    c.requires.canonical c.requires.in_range)

pub offset_bounds-blocks-k : goal.offset_bounds-blocks-k
offset_bounds-blocks-k g c = offset_fits _ _ _ (bounds-blocks-k g c) c.well_formed.0.1

pub bounds-blocks-k-2 : goal.bounds-blocks-k-2
bounds-blocks-k-2 g c = block_there g.T.BitBlock.number _ g.met.T.BitBlock.wide_law _ _ _
    c.BITS-width.ensures (room_of g.T.BitBlock.number _ g.met.T.BitBlock.wide_law _ _ _
    c.requires.canonical c.requires.in_range)

pub offset_bounds-blocks-k-2 : goal.offset_bounds-blocks-k-2
offset_bounds-blocks-k-2 g c = offset_fits _ _ _ (bounds-blocks-k-2 g c) c.well_formed.0.1

pub returns : goal.returns
returns g c =
    let number = g.T.BitBlock.number in
    let w = g.T.BitBlock.BITS in
    let wide = g.met.T.BitBlock.wide_law in
    let place = c.args.index % c.BITS-width.result in
    let inside : place < w = rw c.BITS-width.ensures (mod-lt c.args.index wide) in
    let one = ap number c.ONE.ensures ∙ g.met.T.BitBlock.one_number_law in
    let mask = mask-is w place inside _ _ one c.up.ensures.within c.up.ensures.places in
    let room = room_of number _ wide _ _ _ c.requires.canonical c.requires.in_range in
    let was = place-flipped w _ _ _ place c.bit.result inside mask c.bit.ensures
    c.bxor-block.ensures.places in
    record {
      stores = write_at number _ wide _ _ c.requires.canonical _ c.requires.in_range _
          c.BITS-width.ensures _ _ _ c.index-blocks-k.is c.bxor-block.ensures.within
          (HasPlaces-flipped w _ _ _ place c.bit.result inside mask c.bit.ensures
          c.bxor-block.ensures.places);
      was = stored-bit c.args.len _ _ _ c.requires.in_range (bit_is_at_place number _ wide _ _ _
          c.BITS-width.ensures room _ _ c.index-blocks-k.is was);
    }
