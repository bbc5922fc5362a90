-- By the lemmas on the blocks of two Vobs of one length.
use Rattle.std.proofs.Common.{ap, ◌∙◌, arith, true}
use Rattle.vob_block.specs.Pointwise.{pointwise}
use Rattle.vob_block.proofs.PointwiseLemmas.{length-pointwise}
use Rattle.vob.proofs.BitsLemmas.{count_at_most}
use Rattle.vob.proofs.PairLemmas.{lent_as_many, lent_ones, lent_ones-le}
use Rattle.vob.proofs.vob.Vob.combined_count.Goals as goal

pub count_combined-requires-clause-count : goal.count_combined-requires-clause-count
count_combined-requires-clause-count g c =
    lent_as_many g.T.BitBlock.number g.T.BitBlock.BITS g.met.T.BitBlock.wide_law c.self.inside.len
    c.self.inside.vec.items c.blocks-2.result.items c.args.self.now.bits c.args.other.now.bits
    c.self.invariant (ap (λ v. v.bits) c.self.view_is) c.requires.same c.blocks-2.ensures.blocks
    g.C.Combine.of_bits c.requires.none c.as_slice.ensures.value

pub count_combined-requires-clause-fits : goal.count_combined-requires-clause-fits
count_combined-requires-clause-fits g c = omega (
  arith,
  lent_ones-le g.T.BitBlock.number g.T.BitBlock.BITS g.met.T.BitBlock.wide_law c.self.inside.len
      c.self.inside.vec.items c.blocks-2.result.items c.args.self.now.bits c.args.other.now.bits
      c.self.invariant (ap (λ v. v.bits) c.self.view_is) c.requires.same c.blocks-2.ensures.blocks
      g.C.Combine.of_bits c.requires.none c.as_slice.ensures.value,
)

pub returns-clause-count : goal.returns-clause-count
returns-clause-count g c =
    c.count_combined.ensures.ones
    ∙ lent_ones g.T.BitBlock.number g.T.BitBlock.BITS g.met.T.BitBlock.wide_law c.self.inside.len
    c.self.inside.vec.items c.blocks-2.result.items c.args.self.now.bits c.args.other.now.bits
    c.self.invariant (ap (λ v. v.bits) c.self.view_is) c.requires.same c.blocks-2.ensures.blocks
    g.C.Combine.of_bits c.requires.none c.as_slice.ensures.value

pub returns-clause-most : goal.returns-clause-most
returns-clause-most g c = omega (
  arith,
  returns-clause-count g c,
  count_at_most true (pointwise g.C.Combine.of_bits c.args.self.now.bits c.args.other.now.bits),
  length-pointwise g.C.Combine.of_bits c.args.self.now.bits c.args.other.now.bits c.requires.same,
)
