-- The blocks are the packing of the bits, and those below the index are counted in them.
use Rattle.std.proofs.Common.{length, ap, arith}
use Rattle.std.proofs.lemmas.List.{length-map}
use Rattle.vob_block.proofs.NeedLemmas.{need-le-need}
use Rattle.vob_block.proofs.PackingLemmas.{length-packing}
use Rattle.vob.proofs.SetsLemmas.{rank_is}
use Rattle.vob_rows.proofs.row.Row.rank.Goals as goal

pub count_ones_in-requires-clause-enough : goal.count_ones_in-requires-clause-enough
count_ones_in-requires-clause-enough g c =
    let w = g.T.BitBlock.BITS in
    let wide = g.met.T.BitBlock.wide_law in
    let bits = c.args.self.now in
    omega (
      arith,
      need-le-need w wide c.min.result (length bits) (omega (arith, c.min.ensures, c.len.ensures)),
      length-map c.blocks-2.result.items g.T.BitBlock.number,
      ap length c.blocks-2.ensures.blocks,
      length-packing w wide bits,
    )

pub returns : goal.returns
returns g c = rank_is g.T.BitBlock.BITS g.met.T.BitBlock.wide_law c.args.self.now c.args.index
    c.min.result _ _ (omega (arith, c.min.ensures, c.len.ensures)) c.blocks-2.ensures.blocks
    c.count_ones_in.ensures.ones
