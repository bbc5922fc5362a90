-- The blocks so far are combined, and each of them was read once.
use Rattle.std.proofs.Common.{◌≡◌, ◌+◌, ◌-◌, map}
use Rattle.vob_block.specs.Kernel.{Takes}
use Rattle.vob_block.proofs.combine.combine_from.Given as goal

abbrev pub invariant-loop-k : goal.invariant-loop-k
invariant-loop-k g l = record {
  taken : Takes g.T.BitBlock.BITS g.C.Combine.of_bits (map g.T.BitBlock.number l.fn.other.items)
      (map g.T.BitBlock.number l.fn.own) (map g.T.BitBlock.number l.own) l.fn.from (l.k - l.fn.from)
      (g.T.BitBlock.number l.fn.changed) (g.T.BitBlock.number l.changed);
  items : l.other.items ≡ l.fn.other.items;
  reads : l.other.reads + l.fn.from ≡ l.fn.other.reads + l.k;
}
