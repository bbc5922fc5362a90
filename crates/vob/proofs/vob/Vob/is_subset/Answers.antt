-- By the lemmas on the blocks of two Vobs of one length.
use Rattle.std.proofs.Common.{ap, refl}
use Rattle.vob_block.specs.Pointwise.{without}
use Rattle.vob.proofs.PairLemmas.{lent_as_many, flag_of, flag_of_list, subset_is, HasOther-missed}
use Rattle.vob.proofs.vob.Vob.is_subset.Goals as goal

pub has_none-requires : goal.has_none-requires
has_none-requires g c = lent_as_many _ _ g.met.T.BitBlock.wide_law _ _ _ _ _ c.self.invariant
    (ap (λ v. v.bits) c.self.view_is) c.requires c.blocks-2.ensures.blocks without refl
    c.as_slice.ensures.value

pub returns-clause-answer : goal.returns-clause-answer
returns-clause-answer g c = flag_of _ _ g.met.T.BitBlock.wide_law _ _ _ _ _ c.self.invariant
    (ap (λ v. v.bits) c.self.view_is) c.requires c.blocks-2.ensures.blocks without refl
    c.as_slice.ensures.value _ c.has_none.ensures.none _ (subset_is _ _)

pub returns-clause-list : goal.returns-clause-list
returns-clause-list g c = flag_of_list _ _ g.met.T.BitBlock.wide_law _ _ _ _ _ c.self.invariant
    (ap (λ v. v.bits) c.self.view_is) c.requires c.blocks-2.ensures.blocks without refl
    c.as_slice.ensures.value _ c.has_none.ensures.none

pub returns-clause-outside : goal.returns-clause-outside
returns-clause-outside g c = HasOther-missed _ _ _ (returns-clause-answer g c)
