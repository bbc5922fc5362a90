-- The blocks so far were read once each, and their true places taken off the rank.
use Rattle.std.proofs.Common.{◌≡◌, ◌+◌, ◌*◌, map}
use Rattle.vob_walk.specs.Count.{ones_between}
use Rattle.vob_walk.proofs.select.index_of_rank.Given as goal

abbrev pub invariant-loop-k : goal.invariant-loop-k
invariant-loop-k g l = record {
  ones : ones_between g.T.BitBlock.BITS (map g.T.BitBlock.number l.fn.blocks.items) 0
      (l.k * g.T.BitBlock.BITS) + l.left ≡ l.fn.rank;
  items : l.blocks.items ≡ l.fn.blocks.items;
  reads : l.blocks.reads ≡ l.fn.blocks.reads + l.k;
}
