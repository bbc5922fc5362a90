-- The blocks of both are the packing of their bits.
use Rattle.std.specs.declared.ops.Bound.TheVariants.{Unbounded}
use Rattle.std.proofs.Common.{true, map, length, ap, sym, ◌∙◌, arith}
use Rattle.vob_block.specs.Pointwise.{pointwise}
use Rattle.vob_block.proofs.PackingLemmas.{packing_is}
use Rattle.vob_block.proofs.PointwiseLemmas.{length-pointwise}
use Rattle.vob_walk.proofs.MatchesLemmas.{length-matches-le}
use Rattle.vob.proofs.vob.Vob.combined_bits.Goals as goal

pub returns-clause-fresh : goal.returns-clause-fresh
returns-clause-fresh g c =
    let w = g.T.BitBlock.BITS in
    let number = g.T.BitBlock.number in
    let mine = packing_is w g.met.T.BitBlock.wide_law c.args.self.now.bits c.len.result
    (map number c.blocks-2.result.items) c.blocks-2.ensures.blocks (sym c.len.ensures.len) in
    let theirs = packing_is w g.met.T.BitBlock.wide_law c.args.other.now.bits c.len.result
    (map number c.blocks-3.result.items) c.blocks-3.ensures.blocks
    (sym c.requires ∙ sym c.len.ensures.len) in
    record {
      whole = rw (mine.bits, theirs.bits) at c.over.ensures.whole;
      reads = omega (
        arith,
        c.over.ensures.reads,
        c.blocks-2.ensures.reads,
        c.blocks-3.ensures.reads,
      );
    }

pub returns-clause-most : goal.returns-clause-most
returns-clause-most g c =
    let f = g.C.Combine.of_bits in
    let bits = pointwise f c.args.self.now.bits c.args.other.now.bits in
    omega (
      arith,
      ap length (returns-clause-fresh g c).whole.rest,
      length-matches-le bits Unbounded Unbounded true,
      length-pointwise f c.args.self.now.bits c.args.other.now.bits c.requires,
    )
