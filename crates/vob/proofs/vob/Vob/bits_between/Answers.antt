-- The blocks give their bits.
use Rattle.std.proofs.Common.{◌∙◌, ap, map, length, arith}
use Rattle.std.proofs.lemmas.List.{length-map}
use Rattle.vob_block.proofs.NeedLemmas.{need-le-need}
use Rattle.vob_block.proofs.PackingLemmas.{length-unpacking}
use Rattle.vob.proofs.DrainLemmas.{taken-blocks, taken-nothing}
use Rattle.vob.proofs.vob.Vob.bits_between.Goals as goal

pub returns-then-start-end-clause-bits : goal.returns-then-start-end-clause-bits
returns-then-start-end-clause-bits g c = rw c.empty.ensures
    (taken-nothing c.args.self.now.bits c.args.start c.args.end c.if-start-end.true)

pub split_blocks-requires-clause-count : goal.split_blocks-requires-clause-count
split_blocks-requires-clause-count g c = omega (
  arith,
  need-le-need g.T.BitBlock.BITS g.met.T.BitBlock.wide_law c.args.end c.self.inside.len
      (rw (← c.self.view_is, length-unpacking) at c.requires.inside),
  c.self.invariant.count,
  length-map c.self.inside.vec.items g.T.BitBlock.number,
  ap length c.as_slice.ensures.value,
)

pub returns-clause-bits : goal.returns-clause-bits
returns-clause-bits g c = c.in_ok-vec.ensures.bits
    ∙ taken-blocks g.T.BitBlock.BITS c.self.inside.len c.args.start c.args.end
    (ap (map g.T.BitBlock.number) c.as_slice.ensures.value) (ap (λ v. v.bits) c.self.view_is)
    c.requires.order (rw (← c.self.view_is, length-unpacking) at c.requires.inside)
