-- Blocks that begin one are moved as they are, and the others are made of two.
use Rattle.std.proofs.Common.{◌≡◌, ◌*◌, ◌/◌, subst, ℕ, length, map, arith}
use Rattle.vob_store.specs.Copying.{AreCopied}
use Rattle.vob_store.proofs.CopyLemmas.{AreCopied-whole, block_and_place}
use Rattle.vob_store.proofs.FunnelLemmas.{skip-inside, skip-below}
use Rattle.vob_store.proofs.shift.move_whole.Goals as goal

pub copy_within-requires-clause-in_bounds : goal.copy_within-requires-clause-in_bounds
copy_within-requires-clause-in_bounds g c =
    let there = skip-inside g.T.BitBlock.BITS c.BITS-width.result c.args.blocks.count
    c.args.blocks.start (length c.args.own.now) g.met.T.BitBlock.wide_law c.BITS-width.ensures
    (omega (arith, c.requires.source)) in
    omega (arith, there)

pub overflow_add-from : goal.overflow_add-from
overflow_add-from g c = record {
  fits = omega (arith, copy_within-requires-clause-in_bounds g c, c.well_formed.0.0);
}

pub move_down-requires-clause-inside : goal.move_down-requires-clause-inside
move_down-requires-clause-inside g c =
    let there = skip-below g.T.BitBlock.BITS c.BITS-width.result c.args.blocks.count
    c.args.blocks.start (length c.args.own.now) c.BITS-width.ensures
    c.if-places-eq0.false
    (omega (arith, c.requires.source)) in
    omega (arith, there)

pub returns-then-places-eq0 : goal.returns-then-places-eq0
returns-then-places-eq0 g c =
    let w = g.T.BitBlock.BITS in
    let from = c.args.blocks.start / c.BITS-width.result in
    let there = skip-inside w c.BITS-width.result c.args.blocks.count c.args.blocks.start
    (length c.args.own.now) g.met.T.BitBlock.wide_law c.BITS-width.ensures
    (omega (arith, c.requires.source)) in
    let begin : from * w ≡ c.args.blocks.start =
    omega (
      arith,
      block_and_place w c.args.blocks.start c.BITS-width.result c.BITS-width.ensures,
      c.if-places-eq0.true,
    ) in subst (λ (s : ℕ). AreCopied w (c.args.first * w) s (c.args.blocks.count * w)
    (map g.T.BitBlock.number c.args.own.now) (map g.T.BitBlock.number c.args.own.now)
    (map g.T.BitBlock.number c.copy_within.new.self)) begin
    (AreCopied-whole g.T.BitBlock.number w g.met.T.BitBlock.wide_law c.args.first from
    c.args.blocks.count c.args.own.now c.copy_within.new.self g.T.BitBlock.ZERO
    c.copy_within.ensures.len c.requires.inside (omega (arith, there))
    (λ k d above below.
    c.copy_within.ensures.by_index.0 k d above (omega (arith, below)))
    c.copy_within.ensures.by_index.1
    (λ k d past. c.copy_within.ensures.by_index.2 k d (omega (arith, past))))
