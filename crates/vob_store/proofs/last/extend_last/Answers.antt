-- The last block is there, and gets the places behind the bits that stand in it.
use Rattle.vob_store.proofs.AppendLemmas.{last_in_canonical, Stores-topped}
use Rattle.vob_store.proofs.WriteLemmas.{offset_fits}
use Rattle.vob_store.proofs.last.extend_last.Goals as goal

pub bounds-blocks-last : goal.bounds-blocks-last
bounds-blocks-last g c =
    last_in_canonical g.T.BitBlock.number _ g.met.T.BitBlock.wide_law _ _ c.requires.canonical _
    c.BITS-width.ensures c.requires.partial

pub offset_bounds-blocks-last : goal.offset_bounds-blocks-last
offset_bounds-blocks-last g c = offset_fits _ _ _ (bounds-blocks-last g c) c.well_formed.0.1

pub bounds-blocks-last-2 : goal.bounds-blocks-last-2
bounds-blocks-last-2 g c =
    last_in_canonical _ _ g.met.T.BitBlock.wide_law _ _ c.requires.canonical _ c.BITS-width.ensures
    c.requires.partial

pub offset_bounds-blocks-last-2 : goal.offset_bounds-blocks-last-2
offset_bounds-blocks-last-2 g c = offset_fits _ _ _ (bounds-blocks-last-2 g c) c.well_formed.0.1

pub returns : goal.returns
returns g c =
    let number = g.T.BitBlock.number in
    Stores-topped number _ g.met.T.BitBlock.wide_law _ _ c.requires.canonical _ c.BITS-width.ensures
    c.requires.partial _ _ _ _ c.index-blocks-last.is c.up.ensures.places c.bor.ensures.within
    c.bor.ensures.places
