-- The blocks so far are built, each read once, and of the one before bits are wanted next.
use Rattle.std.proofs.Common.{◌≡◌, ◌+◌, ◌∷◌, map, get_or}
use Rattle.vob_block.specs.Packing.{bit_at}
use Rattle.vob_store.specs.Building.{AreBuilt}
use Rattle.vob_store.proofs.append.join_shifted.Given as goal

abbrev pub invariant-loop-k : goal.invariant-loop-k
invariant-loop-k g l = record {
  built : AreBuilt g.T.BitBlock.BITS l.k (map g.T.BitBlock.number l.own)
      (λ i. bit_at (g.T.BitBlock.number l.fn.first ∷ map g.T.BitBlock.number l.fn.other.items)
      g.T.BitBlock.BITS (l.from + i));
  before : g.T.BitBlock.number l.before
      ≡ get_or (g.T.BitBlock.number l.fn.first ∷ map g.T.BitBlock.number l.fn.other.items) l.k 0;
  items : l.other.items ≡ l.fn.other.items;
  reads : l.other.reads ≡ l.fn.other.reads + l.k;
}
