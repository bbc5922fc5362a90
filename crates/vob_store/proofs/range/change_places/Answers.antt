-- The block's places under the mask are changed, and it is another one exactly where a bit is.
use Rattle.vob_store.proofs.RangeLemmas.{IsRanged-item, same_item, not_flag}
use Rattle.vob_store.proofs.range.change_places.Goals as goal

pub returns-clause-ranged : goal.returns-clause-ranged
returns-clause-ranged g c = IsRanged-item g.T.BitBlock.number _ g.met.T.BitBlock.wide_law
    g.C.Change.of_bit _ _ _ c.block-new.result c.requires.inside c.index-blocks-k.is c.args.from
    c.args.to _ c.requires.to c.mask_between.ensures c.block-new.ensures.within
    c.block-new.ensures.places

pub returns-clause-changed : goal.returns-clause-changed
returns-clause-changed g c =
    let same = same_item g.T.BitBlock.number _ g.met.T.BitBlock.wide_law g.C.Change.of_bit _ _ _
    c.block-new.result c.requires.inside c.index-blocks-k.is c.in_range.ensures
    c.block-new.ensures.within in
    let test = g.met.T.BitBlock.equal_law c.index-blocks-k.result c.block-new.result in
    not_flag _ _ c.ne.ensures ((λ e. same.0 (test.0 e)), (λ all. test.1 (same.1 all)))
