-- A full last block has no bit past the length, and elsewhere the mask takes those off.
use Rattle.std.proofs.Common.{refl}
use Rattle.vob_store.proofs.CutLemmas.{canonical_at_full_width, last_in_items, mask_last_at}
use Rattle.vob_store.proofs.WriteLemmas.{offset_fits}
use Rattle.vob_store.proofs.mask.mask_last.Goals as goal

pub bounds-blocks-last : goal.bounds-blocks-last
bounds-blocks-last g c =
    last_in_items g.T.BitBlock.number _ g.met.T.BitBlock.wide_law _ _ c.requires _
    c.BITS-width.ensures c.if-used-ne0.true

pub offset_bounds-blocks-last : goal.offset_bounds-blocks-last
offset_bounds-blocks-last g c = offset_fits _ _ _ (bounds-blocks-last g c) c.well_formed.0.1

pub bounds-blocks-last-then-used-ne0 : goal.bounds-blocks-last-then-used-ne0
bounds-blocks-last-then-used-ne0 g c =
    last_in_items g.T.BitBlock.number _ g.met.T.BitBlock.wide_law _ _ c.requires _
    c.BITS-width.ensures c.if-used-ne0.true

pub offset_bounds-blocks-last-then-used-ne0 : goal.offset_bounds-blocks-last-then-used-ne0
offset_bounds-blocks-last-then-used-ne0 g c =
    offset_fits _ _ _ (bounds-blocks-last-then-used-ne0 g c) c.well_formed.0.1

pub returns-else-used-ne0 : goal.returns-else-used-ne0
returns-else-used-ne0 g c = record {
  canonical = canonical_at_full_width g.T.BitBlock.number _ g.met.T.BitBlock.wide_law _ _ c.requires
      _ c.BITS-width.ensures c.all_in_range.ensures c.if-used-ne0.false;
  bits = refl;
}

pub returns-then-used-ne0 : goal.returns-then-used-ne0
returns-then-used-ne0 g c =
    mask_last_at g.T.BitBlock.number _ g.met.T.BitBlock.wide_law _ _ c.requires _
    c.BITS-width.ensures c.all_in_range.ensures c.if-used-ne0.true _ _ _ c.index-blocks-last.is
    c.band.ensures.within c.band.ensures.places c.low_mask.ensures.places
