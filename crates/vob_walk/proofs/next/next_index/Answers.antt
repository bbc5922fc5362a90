-- The block of `from` is one of those that the bits need.
use Rattle.std.proofs.Common.{◌∙◌, ◌/◌, ◌%◌, map, sym, ap, arith}
use Rattle.vob_block.specs.Places.{place}
use Rattle.vob_block.proofs.NeedLemmas.{div-lt-need}
use Rattle.vob_block.proofs.NumberLemmas.{number_read}
use Rattle.vob_block.proofs.PackingLemmas.{bit_at-is_place}
use Rattle.vob_walk.proofs.NextLemmas.{beq-true}
use Rattle.vob_walk.proofs.next.next_index.Goals as goal

pub block-block-requires : goal.block-block-requires
block-block-requires g c = omega (
  arith,
  c.requires,
  ap (λ u. c.args.from / u) c.BITS.ensures,
  div-lt-need g.T.BitBlock.BITS g.met.T.BitBlock.wide_law c.args.len c.args.from (omega arith),
)

pub next_in_hand-next-requires-clause-hand : goal.next_in_hand-next-requires-clause-hand
next_in_hand-next-requires-clause-hand g c =
    let read = rw c.BITS.ensures at c.block-block.ensures.block in
    rw c.block-block.ensures.items (number_read g.T.BitBlock.number c.args.blocks.now.items
    (c.args.from / g.T.BitBlock.BITS) c.block-block.result read)

pub returns-then-bit-value-clause-found : goal.returns-then-bit-value-clause-found
returns-then-bit-value-clause-found g c =
    let w = g.T.BitBlock.BITS in
    let xs = map g.T.BitBlock.number c.args.blocks.now.items in
    let from = c.args.from in
    let read = number_read g.T.BitBlock.number c.args.blocks.now.items (from / w) c.block-block.result
    (rw c.BITS.ensures at c.block-block.ensures.block) in
    record {
      above = omega arith;
      below = omega (arith, c.if-from-len.false);
      there = bit_at-is_place xs w from ∙ ap (place (from % w)) (sym read)
          ∙ sym (rw c.BITS-2.ensures at c.bit.ensures)
          ∙ beq-true c.bit.result c.args.value c.if-bit-value.true;
      between = λ i low high. absurd (omega (arith, low, high));
    }
