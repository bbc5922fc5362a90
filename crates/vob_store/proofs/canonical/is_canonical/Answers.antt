-- The count is compared first; then only the last block can have a bit past the length, and it has
-- none where the mask changes nothing.
use Rattle.vob_store.proofs.RawLemmas.{count_refuses, full_decides, last_decides}
use Rattle.vob_store.proofs.canonical.is_canonical.Goals as goal

pub returns-then-blocks-div_ceil : goal.returns-then-blocks-div_ceil
returns-then-blocks-div_ceil g c =
    count_refuses g.T.BitBlock.number _ g.met.T.BitBlock.wide_law _ _ _ _ c.BITS-width.ensures
    c.div_ceil.ensures c.if-blocks-div_ceil.true

pub returns-then-used-eq0 : goal.returns-then-used-eq0
returns-then-used-eq0 g c =
    full_decides g.T.BitBlock.number _ g.met.T.BitBlock.wide_law _ _ _ _ c.BITS-width.ensures
    c.div_ceil.ensures c.if-blocks-div_ceil.false c.all_in_range.ensures c.if-used-eq0.true

pub returns : goal.returns
returns g c =
    let number = g.T.BitBlock.number in
    let last = c.index-blocks-len.result in
    last_decides number _ g.met.T.BitBlock.wide_law _ _ _ _ c.BITS-width.ensures c.div_ceil.ensures
    c.if-blocks-div_ceil.false c.all_in_range.ensures c.if-used-eq0.false _ _ _
    c.index-blocks-len.is c.band.ensures.within c.band.ensures.places c.low_mask.ensures.places _
    (rw c.eq.ensures (g.met.T.BitBlock.equal_law c.band.result last))
