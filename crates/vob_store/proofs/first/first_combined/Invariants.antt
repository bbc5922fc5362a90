-- The blocks so far were read once each, and have no true place, combined.
use Rattle.std.proofs.Common.{◌≡◌, ◌+◌, map}
use Rattle.vob_store.specs.Combined.{HaveNone}
use Rattle.vob_store.proofs.first.first_combined.Given as goal

abbrev pub invariant-loop-k : goal.invariant-loop-k
invariant-loop-k g l = record {
  none : HaveNone g.C.Combine.of_bits g.T.BitBlock.BITS 0 l.k
      (map g.T.BitBlock.number l.fn.own) (map g.T.BitBlock.number l.fn.other.items);
  items : l.other.items ≡ l.fn.other.items;
  reads : l.other.reads ≡ l.fn.other.reads + l.k;
}
