-- The blocks so far are those of the other, each read once.
use Rattle.std.proofs.Common.{◌≡◌, ◌+◌, map}
use Rattle.vob_block.specs.Packing.{bit_at}
use Rattle.vob_store.specs.Building.{AreBuilt}
use Rattle.vob_store.proofs.append.join_whole.Given as goal

abbrev pub invariant-loop-k : goal.invariant-loop-k
invariant-loop-k g l = record {
  built : AreBuilt g.T.BitBlock.BITS l.k (map g.T.BitBlock.number l.own)
      (bit_at (map g.T.BitBlock.number l.fn.other.items) g.T.BitBlock.BITS);
  items : l.other.items ≡ l.fn.other.items;
  reads : l.other.reads ≡ l.fn.other.reads + l.k;
}
