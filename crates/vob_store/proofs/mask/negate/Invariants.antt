-- The blocks so far are negated, and the others are as they were.
use Rattle.std.proofs.Common.{◌≡◌, ℕ, ◌≤◌, not, map, get_or}
use Rattle.vob_block.specs.Packing.{bit_at}
use Rattle.vob_store.specs.Building.{AreBuilt}
use Rattle.vob_store.proofs.mask.negate.Given as goal

abbrev pub invariant-loop-k : goal.invariant-loop-k
invariant-loop-k g l = record {
  built : AreBuilt g.T.BitBlock.BITS l.k (map g.T.BitBlock.number l.blocks)
      (λ i. not (bit_at (map g.T.BitBlock.number l.fn.blocks) g.T.BitBlock.BITS i));
  rest : (i : ℕ) → l.k ≤ i → get_or (map g.T.BitBlock.number l.blocks) i 0
      ≡ get_or (map g.T.BitBlock.number l.fn.blocks) i 0;
}
