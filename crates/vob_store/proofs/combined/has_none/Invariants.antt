-- The chunks so far have no true place, combined, and each of their blocks was read once.
use Rattle.std.proofs.Common.{◌≡◌, ◌+◌, ◌*◌, map}
use Rattle.vob_store.specs.Combined.{HaveNone}
use Rattle.vob_store.proofs.combined.has_none.Given as goal

abbrev pub invariant-loop-chunk : goal.invariant-loop-chunk
invariant-loop-chunk g l = record {
  none : HaveNone g.C.Combine.of_bits g.T.BitBlock.BITS 0 (l.chunk * 64)
      (map g.T.BitBlock.number l.fn.own) (map g.T.BitBlock.number l.fn.other.items);
  items : l.other.items ≡ l.fn.other.items;
  reads : l.other.reads ≡ l.fn.other.reads + l.chunk * 64;
}
