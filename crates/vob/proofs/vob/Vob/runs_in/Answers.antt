-- By the blocks that the range and all bits need.
use Rattle.std.proofs.Common.{◌∙◌, ap, arith, length, map, refl, true}
use Rattle.vob_block.specs.Packing.{need, unpacking}
use Rattle.vob_block.proofs.NeedLemmas.{need-le-need}
use Rattle.vob_walk.specs.RunSteps.{seen}
use Rattle.vob_walk.specs.Runs.{runs_of}
use Rattle.vob_walk.proofs.RunsBackLemmas.{runs_in_reverse}
use Rattle.vob_walk.proofs.RunsLemmas.{runs_in_order}
use Rattle.vob_walk.proofs.SeenLemmas.{IsOverRange-walk, length-runs_of-seen}
use Rattle.vob_walk.proofs.WindowLemmas.{IsRangeOf-own, blocks_met-most}
use Rattle.vob.proofs.SetsLemmas.{enough_blocks}
use Rattle.vob.proofs.vob.Vob.runs_in.Goals as goal

pub over-requires-clause-count : goal.over-requires-clause-count
over-requires-clause-count g c =
    let fewer = need-le-need g.T.BitBlock.BITS g.met.T.BitBlock.wide_law _ _
    (rw c.len.ensures.len at c.cut_range-start.ensures.inside) in
    let enough = enough_blocks g.T.BitBlock.BITS g.met.T.BitBlock.wide_law g.T.BitBlock.number _
    c.args.self.now.bits _ c.blocks-2.ensures.blocks refl in
    omega arith

pub returns-clause-within : goal.returns-clause-within
returns-clause-within g c = λ in_range. IsOverRange-walk _ g.met.T.BitBlock.wide_law _ _
    c.blocks-2.ensures.blocks (rw c.len.ensures.len at c.cut_range-start.ensures.window in_range)
    c.over.ensures.bits c.over.ensures.rest
    (omega (arith, c.over.ensures.reads, c.blocks-2.ensures.reads))

pub returns-clause-some : goal.returns-clause-some
returns-clause-some g c =
    let inside = rw c.len.ensures.len at c.cut_range-start.ensures.inside in
    let order = c.cut_range-start.ensures.ordered in (
      _,
      _,
      order,
      inside,
      IsOverRange-walk _ g.met.T.BitBlock.wide_law _ _ c.blocks-2.ensures.blocks
          (IsRangeOf-own _ _ _ order inside) c.over.ensures.bits c.over.ensures.rest
          (omega (arith, c.over.ensures.reads, c.blocks-2.ensures.reads)),
    )

pub returns-clause-longest : goal.returns-clause-longest
returns-clause-longest g c =
    let few = length-runs_of-seen true _ _ (map g.T.BitBlock.number c.blocks-2.result.items)
    g.T.BitBlock.BITS c.cut_range-start.ensures.ordered in
    omega (
      arith,
      few,
      ap length c.over.ensures.rest,
      ap (λ bits. length (runs_of bits)) c.over.ensures.bits,
      c.cut_range-start.ensures.inside,
      c.len.ensures.len,
      c.len.ensures.greatest,
    )

pub returns-clause-runs : goal.returns-clause-runs
returns-clause-runs g c = runs_in_order

pub returns-clause-runs_back : goal.returns-clause-runs_back
returns-clause-runs_back g c = runs_in_reverse

pub returns-clause-reads : goal.returns-clause-reads
returns-clause-reads g c =
    let fewer = need-le-need g.T.BitBlock.BITS g.met.T.BitBlock.wide_law _ _
    (rw c.len.ensures.len at c.cut_range-start.ensures.inside) in
    let order = c.cut_range-start.ensures.ordered in
    let own = IsRangeOf-own _ _ (c.cut_range-start.result.1) order (omega arith) in
    omega (
      arith,
      c.over.ensures.reads,
      c.blocks-2.ensures.reads,
      blocks_met-most g.T.BitBlock.BITS g.met.T.BitBlock.wide_law own,
    )
