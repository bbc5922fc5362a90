-- What was gathered is 0 exactly where the blocks so far have no true place, combined.
use Rattle.std.proofs.Common.{◌≡◌, ◌+◌, map}
use Rattle.vob_store.proofs.CombinedLemmas.{IsFound}
use Rattle.vob_store.proofs.combined.none_between.Given as goal

abbrev pub invariant-loop-k : goal.invariant-loop-k
invariant-loop-k g l = record {
  found : IsFound g.C.Combine.of_bits g.T.BitBlock.BITS (map g.T.BitBlock.number l.fn.own)
      (map g.T.BitBlock.number l.fn.other.items) l.fn.from l.k (g.T.BitBlock.number l.found);
  items : l.other.items ≡ l.fn.other.items;
  reads : l.other.reads + l.fn.from ≡ l.fn.other.reads + l.k;
}
