-- The places below the end, without those below the start.
use Rattle.vob_store.proofs.RangeLemmas.{HasPlaces-between}
use Rattle.vob_store.proofs.range.mask_between.Goals as goal

pub returns : goal.returns
returns g c =
    let number = g.T.BitBlock.number in
    HasPlaces-between _ _ _ _ _ _ _ c.low_mask-2.ensures.places c.low_mask.ensures.places
    c.bnot.ensures.places c.band.ensures.places
