-- The blocks so far have what the others combine to, and each of these was read once.
use Rattle.std.proofs.Common.{◌≡◌, ℕ, ◌||◌, List, map}
use Rattle.vob_block.specs.Kernel.{Takes}
use Rattle.vob_block.specs.Pointwise.{IsPointwise}
use Rattle.vob_store.proofs.fused.or_combined.Given as goal

abbrev pub invariant-loop-k : goal.invariant-loop-k
invariant-loop-k g l = record {
  taken : (both : List ℕ) → IsPointwise g.T.BitBlock.BITS g.C.Combine.of_bits
      (map g.T.BitBlock.number l.fn.first.items) (map g.T.BitBlock.number l.fn.second.items) both
      → Takes g.T.BitBlock.BITS ◌||◌ both (map g.T.BitBlock.number l.fn.own)
      (map g.T.BitBlock.number l.own) 0 l.k 0 (g.T.BitBlock.number l.changed);
  first : l.first.items ≡ l.fn.first.items;
  second : l.second.items ≡ l.fn.second.items;
}
