-- The blocks so far were read once each, and the true places of both combined counted.
use Rattle.std.proofs.Common.{◌≡◌, ◌+◌, map}
use Rattle.vob_store.specs.Combined.{ones_combined}
use Rattle.vob_store.proofs.combined.count_combined.Given as goal

abbrev pub invariant-loop-k : goal.invariant-loop-k
invariant-loop-k g l = record {
  ones : l.ones ≡ ones_combined g.C.Combine.of_bits g.T.BitBlock.BITS (map g.T.BitBlock.number l.fn.own)
      (map g.T.BitBlock.number l.fn.other.items) l.k;
  items : l.other.items ≡ l.fn.other.items;
  reads : l.other.reads ≡ l.fn.other.reads + l.k;
}
