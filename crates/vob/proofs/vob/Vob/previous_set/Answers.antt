-- The blocks are the packing of the bits.
use Rattle.std.proofs.Common.{true}
use Rattle.vob.proofs.SetsLemmas.{enough_blocks, IsPrevious-blocks, IsPrevious-below, IsPrevious-inside}
use Rattle.vob.proofs.vob.Vob.previous_set.Goals as goal

pub previous_index-requires : goal.previous_index-requires
previous_index-requires g c = enough_blocks _ g.met.T.BitBlock.wide_law _ _ c.args.self.now.bits _
    c.blocks-2.ensures.blocks c.len.ensures.len

pub returns-clause-previous : goal.returns-clause-previous
returns-clause-previous g c = IsPrevious-blocks _ g.met.T.BitBlock.wide_law _ _ _ _
    c.blocks-2.ensures.blocks c.len.ensures.len true _ _ c.previous_index.ensures.found

pub returns-clause-inside : goal.returns-clause-inside
returns-clause-inside g c = IsPrevious-inside _ _ _ _ (returns-clause-previous g c)

pub returns-clause-below : goal.returns-clause-below
returns-clause-below g c = IsPrevious-below _ _ _ _ (returns-clause-previous g c)
