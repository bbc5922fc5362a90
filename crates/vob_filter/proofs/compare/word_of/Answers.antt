-- The bit of the next row is marked at its place.
use Rattle.std.proofs.Common.{◌+◌, arith}
use Rattle.vob_block.specs.Packing.{item}
use Rattle.vob_filter.proofs.PackedLemmas.{HasRows-more}
use Rattle.vob_filter.proofs.compare.word_of.Goals as goal

pub loop-row-preserved : goal.loop-row-preserved
loop-row-preserved g c =
    HasRows-more (λ j. item (g.R.Rows.rows c.args.rows.now) (c.args.start + j)) c.loop-row.row
    c.loop-row.word c.bor-word.result c.up.result c.mark_of-mark.result c.bit.result
    c.loop-row.invariant (omega (arith, c.loop-row-test.true, c.requires.few)) c.bit.ensures
    c.mark_of-mark.ensures
    c.up.ensures.places c.bor-word.ensures.places

pub returns : goal.returns
returns g c =
    λ j less. c.loop-row.invariant.below j (omega (arith, less, c.loop-row-test.false))
