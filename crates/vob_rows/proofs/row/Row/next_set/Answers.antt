-- The blocks are the packing of the bits.
use Rattle.std.proofs.Common.{arith, true}
use Rattle.vob.proofs.SetsLemmas.{enough_blocks, IsNext-blocks, IsNext-above, IsNext-inside}
use Rattle.vob_rows.proofs.row.Row.next_set.Goals as goal

pub next_index-requires : goal.next_index-requires
next_index-requires g c = enough_blocks _ g.met.T.BitBlock.wide_law _ _ c.args.self.now _
    c.blocks-2.ensures.blocks c.len.ensures

pub returns-clause-next : goal.returns-clause-next
returns-clause-next g c = IsNext-blocks _ g.met.T.BitBlock.wide_law _ _ _ _
    c.blocks-2.ensures.blocks c.len.ensures true _ _ c.next_index.ensures.found

pub returns-clause-inside : goal.returns-clause-inside
returns-clause-inside g c = IsNext-inside _ _ _ _ (returns-clause-next g c)

pub returns-clause-above : goal.returns-clause-above
returns-clause-above g c = IsNext-above _ _ _ _ _ (returns-clause-next g c)
    (omega (arith, c.len.ensures))
