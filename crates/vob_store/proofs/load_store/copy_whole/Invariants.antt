-- The blocks so far are copied, and the others are as they were.
use Rattle.std.proofs.Common.{◌≡◌, ◌+◌, ◌*◌, ◌≤◌, map}
use Rattle.vob_store.specs.Copying.{AreCopied}
use Rattle.vob_store.proofs.load_store.copy_whole.Given as goal

abbrev pub invariant-loop-k : goal.invariant-loop-k
invariant-loop-k g l = record {
  copied : AreCopied g.T.BitBlock.BITS (l.first * g.T.BitBlock.BITS) l.blocks.start (l.k * g.T.BitBlock.BITS)
      (map g.T.BitBlock.number l.fn.own) (map g.T.BitBlock.number l.fn.other.items)
      (map g.T.BitBlock.number l.own);
  items : l.other.items ≡ l.fn.other.items;
  reads : l.other.reads ≤ l.fn.other.reads + 2 * l.k;
}
