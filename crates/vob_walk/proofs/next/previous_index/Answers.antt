-- The block of the greatest index is the last one that the bits up to it need.
use Rattle.std.proofs.Common.{◌≡◌, ◌+◌, ◌/◌, length, min, ap, arith}
use Rattle.vob_block.specs.Packing.{need}
use Rattle.vob_block.proofs.NeedLemmas.{div-lt-need}
use Rattle.vob_block.proofs.NumberLemmas.{number_read}
use Rattle.vob_walk.proofs.NextLemmas.{need_one_more}
use Rattle.vob_walk.proofs.next.previous_index.Goals as goal

pub block-block-requires : goal.block-block-requires
block-block-requires g c = omega (
  arith,
  c.requires,
  ap (λ u. c.min-index.result / u) c.BITS.ensures,
  div-lt-need g.T.BitBlock.BITS g.met.T.BitBlock.wide_law c.args.len c.min-index.result
      (omega arith),
)

pub previous_in_hand-end-requires-clause-count : goal.previous_in_hand-end-requires-clause-count
previous_in_hand-end-requires-clause-count g c = omega (
  arith,
  c.requires,
  ap length c.block-block.ensures.items,
  div-lt-need g.T.BitBlock.BITS g.met.T.BitBlock.wide_law c.args.len c.min-index.result
      (omega arith),
)

pub previous_in_hand-end-requires-clause-hand : goal.previous_in_hand-end-requires-clause-hand
previous_in_hand-end-requires-clause-hand g c =
    let read = rw c.BITS.ensures at c.block-block.ensures.block in
    rw c.block-block.ensures.items (number_read g.T.BitBlock.number c.args.blocks.now.items
    (c.min-index.result / g.T.BitBlock.BITS) c.block-block.result read)

pub returns-then-end-gt0-clause-reads : goal.returns-then-end-gt0-clause-reads
returns-then-end-gt0-clause-reads g c =
    let last : min (c.args.upto + 1) c.args.len ≡ c.min-index.result + 1 = omega arith in
    omega (
      arith,
      ap (λ n. need n g.T.BitBlock.BITS) last,
      need_one_more g.T.BitBlock.BITS g.met.T.BitBlock.wide_law c.min-index.result,
    )

pub returns-else-end-gt0-clause-reads : goal.returns-else-end-gt0-clause-reads
returns-else-end-gt0-clause-reads g c =
    let last : min (c.args.upto + 1) c.args.len ≡ c.min-index.result + 1 = omega arith in
    omega (
      arith,
      ap (λ n. need n g.T.BitBlock.BITS) last,
      need_one_more g.T.BitBlock.BITS g.met.T.BitBlock.wide_law c.min-index.result,
    )
