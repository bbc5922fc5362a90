-- By the lemmas on the blocks of two lists of one length.
use Rattle.std.proofs.Common.{◌&&◌, refl}
use Rattle.vob.proofs.PairLemmas.{lent_as_many, flag_of, disjoint_is, HasShared-missed}
use Rattle.vob_rows.proofs.row.Row.is_disjoint.Goals as goal

pub has_none-requires : goal.has_none-requires
has_none-requires g c = lent_as_many _ _ g.met.T.BitBlock.wide_law _ _ _ _ _ c.self.invariant
    c.self.view_is c.requires c.blocks-2.ensures.blocks ◌&&◌ refl refl

pub returns-clause-answer : goal.returns-clause-answer
returns-clause-answer g c = flag_of _ _ g.met.T.BitBlock.wide_law _ _ _ _ _ c.self.invariant c.self.view_is
    c.requires c.blocks-2.ensures.blocks ◌&&◌ refl refl _ c.has_none.ensures.none _ (disjoint_is _ _)

pub returns-clause-shared : goal.returns-clause-shared
returns-clause-shared g c = HasShared-missed _ _ _ (returns-clause-answer g c)
