-- By the lemmas on a range of one block, and of several.
use Rattle.std.proofs.Common.{arith}
use Rattle.vob_store.proofs.RangeLemmas.{block_of, blocks_rise, IsRanged-three, flag_of_three}
use Rattle.vob_store.proofs.range.change_some.Goals as goal

pub change_places-requires-clause-inside : goal.change_places-requires-clause-inside
change_places-requires-clause-inside g c = block_of _ g.met.T.BitBlock.wide_law _
    c.BITS-width.ensures _ _ (omega (arith, c.requires.some, c.requires.inside))

pub returns-clause-ranged : goal.returns-clause-ranged
returns-clause-ranged g c =
    IsRanged-three _ g.met.T.BitBlock.wide_law _ c.BITS-width.ensures _ _ c.requires.some
    (blocks_rise _ g.met.T.BitBlock.wide_law _ c.BITS-width.ensures _ _ c.requires.some
    c.if-first-last.false) c.change_places-head.ensures.ranged c.change_lines-middle.ensures.ranged
    c.change_places-tail.ensures.ranged

pub returns-clause-changed : goal.returns-clause-changed
returns-clause-changed g c =
    flag_of_three _ g.met.T.BitBlock.wide_law _ c.BITS-width.ensures _ _ c.requires.some
    (blocks_rise _ g.met.T.BitBlock.wide_law _ c.BITS-width.ensures _ _ c.requires.some
    c.if-first-last.false) c.change_places-head.ensures.ranged c.change_lines-middle.ensures.ranged
    c.change_places-tail.ensures.ranged _ _ _ c.change_places-head.ensures.changed
    c.change_lines-middle.ensures.changed c.change_places-tail.ensures.changed
