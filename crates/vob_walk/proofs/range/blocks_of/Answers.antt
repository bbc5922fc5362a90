-- By the width that the code read.
use Rattle.std.proofs.Common.{◌/◌, ◌∙◌, ap, arith}
use Rattle.vob_block.proofs.NeedLemmas.{need-is-div_ceil}
use Rattle.vob_walk.proofs.CursorLemmas.{AreBlocksOf-window}
use Rattle.vob_walk.proofs.range.blocks_of.Goals as goal

pub returns : goal.returns
returns g c =
    let wide = g.met.T.BitBlock.wide_law in
    AreBlocksOf-window _ wide c.args.start c.args.stop _ _ (omega arith)
    (ap (λ v. c.args.start / v) c.BITS.ensures)
    (c.div_ceil.ensures ∙ need-is-div_ceil _ wide c.args.stop _ c.BITS-2.ensures)
