-- The blocks below hold as many true bits as were taken off, and this one holds the rest.
use Rattle.std.proofs.Common.{◌*◌, ◌∙◌, map, refl, arith}
use Rattle.vob_block.proofs.NumberLemmas.{number_read}
use Rattle.vob_walk.proofs.CountLemmas.{ones-none}
use Rattle.vob_walk.proofs.SelectLemmas.{HasRank-place, ones-whole}
use Rattle.vob_walk.proofs.select.index_of_rank.Goals as goal

pub loop-k-init : goal.loop-k-init
loop-k-init g c = record {
  ones = omega (
    arith,
    ones-none g.T.BitBlock.BITS (map g.T.BitBlock.number c.args.blocks.now.items) 0
        (0 * g.T.BitBlock.BITS) (omega arith),
  );
  items = refl;
  reads = omega arith;
}

pub loop-k-preserved : goal.loop-k-preserved
loop-k-preserved g c =
    let h = c.loop-k.invariant in
    let items = c.args.blocks.now.items in
    let read = number_read g.T.BitBlock.number items c.loop-k.k c.block-block.result
    (rw h.items at c.block-block.ensures.block) in
    let more = ones-whole g.T.BitBlock.BITS (map g.T.BitBlock.number items) c.loop-k.k
    (g.T.BitBlock.number c.block-block.result) read in
    record {
      ones = omega (arith, c.ones_in-ones.ensures, c.if-left-ones.false);
      items = c.block-block.ensures.items ∙ h.items;
      reads = omega (arith, c.block-block.ensures.reads);
    }

pub returns-then-left-ones-clause-found : goal.returns-then-left-ones-clause-found
returns-then-left-ones-clause-found g c =
    let h = c.loop-k.invariant in
    let at = c.place_of_rank-place.ensures in
    let read = number_read g.T.BitBlock.number c.args.blocks.now.items _ _
    (rw h.items at c.block-block.ensures.block) in
    rw c.BITS.ensures (HasRank-place g.T.BitBlock.BITS _ _ _ read h.ones at.inside at.there at.rank)

pub overflow_mul-result : goal.overflow_mul-result
overflow_mul-result g c =
    omega (arith, c.requires.fits _ (returns-then-left-ones-clause-found g c).there)

pub overflow_add-result : goal.overflow_add-result
overflow_add-result g c =
    omega (arith, c.requires.fits _ (returns-then-left-ones-clause-found g c).there)
