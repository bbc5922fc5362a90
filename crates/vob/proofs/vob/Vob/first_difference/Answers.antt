-- By the blocks that both need up to the shorter length.
use Rattle.std.proofs.Common.{◌∙◌, map, ap, arith}
use Rattle.vob_block.specs.Packing.{need}
use Rattle.vob.proofs.OrderLemmas.{DecideFirst, count-le, decide, first_blocks}
use Rattle.vob.proofs.vob.Vob.first_difference.Given as given
use Rattle.vob.proofs.vob.Vob.first_difference.Goals as goal
use Rattle.vob.proofs.vob.Vob.first_difference.Goals.{After-new}

decided : (g : given.Over) (c : After-new g) → DecideFirst g.T.BitBlock.BITS c.self.inside.len
    c.other.inside.len c.block_count-blocks.result (map g.T.BitBlock.number c.split_at.result.0.now)
    (map g.T.BitBlock.number c.new.result.items) c.args.self.now.bits c.args.other.now.bits
decided g c = rw (
  first_blocks g.T.BitBlock.number _ c.split_at.ensures.front c.as_slice.ensures.value,
  first_blocks g.T.BitBlock.number _ (c.new.ensures.items ∙ c.split_at-2.ensures.front)
      c.as_slice-2.ensures.value,
) (decide _ g.met.T.BitBlock.wide_law _ _ _ _ _ _ c.self.invariant (ap (λ v. v.bits) c.self.view_is)
    c.other.invariant (ap (λ v. v.bits) c.other.view_is) _
    (c.block_count-blocks.ensures ∙ ap (λ n. need n g.T.BitBlock.BITS) c.min-shorter.ensures))

pub split_at-requires : goal.split_at-requires
split_at-requires g c = rw c.as_slice.ensures.value (count-le g.T.BitBlock.number _
    g.met.T.BitBlock.wide_law _ c.self.invariant (omega (arith, c.min-shorter.ensures))
    c.block_count-blocks.ensures)

pub split_at-requires-2 : goal.split_at-requires-2
split_at-requires-2 g c = rw c.as_slice-2.ensures.value (count-le g.T.BitBlock.number _
    g.met.T.BitBlock.wide_law _ c.other.invariant (omega (arith, c.min-shorter.ensures))
    c.block_count-blocks.ensures)

pub first_combined-requires-clause-fits : goal.first_combined-requires-clause-fits
first_combined-requires-clause-fits g c = λ i differs.
    let at = goal.at.first_combined-requires-clause-fits g c in
    let below = (decided g at.After-new).below i differs in
    omega arith

pub returns-in_err-index : goal.returns-in_err-index
returns-in_err-index g c = rw c.from_residual.ensures record {
  first = (decided g (goal.at.returns-in_err-index g c).After-new).none
      (rw c.split_at.ensures.front_len at c.in_err-index.ensures.found);
}

pub returns-then-index-shorter : goal.returns-then-index-shorter
returns-then-index-shorter g c = record {
  first = (decided g (goal.at.returns-then-index-shorter g c).After-new).inside
      c.in_ok-index.index c.in_ok-index.ensures.found
      (omega (arith, c.if-index-shorter.true, c.min-shorter.ensures));
}

pub returns-else-index-shorter : goal.returns-else-index-shorter
returns-else-index-shorter g c = record {
  first = (decided g (goal.at.returns-else-index-shorter g c).After-new).past
      c.in_ok-index.index c.in_ok-index.ensures.found
      (omega (arith, c.if-index-shorter.false, c.min-shorter.ensures));
}
