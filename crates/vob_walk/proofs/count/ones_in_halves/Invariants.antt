-- The blocks so far of each half were read once each, and their true places counted.
use Rattle.std.proofs.Common.{◌≡◌, ◌+◌, ◌*◌, map}
use Rattle.vob_walk.specs.Count.{ones_between}
use Rattle.vob_walk.proofs.count.ones_in_halves.Given as goal

abbrev pub invariant-loop-k : goal.invariant-loop-k
invariant-loop-k g l = record {
  low : l.low ≡ ones_between g.T.BitBlock.BITS
      (map g.T.BitBlock.number (g.S.Source.reading l.fn.blocks).items)
      (l.fn.start * g.T.BitBlock.BITS) (l.k * g.T.BitBlock.BITS);
  high : l.high ≡ ones_between g.T.BitBlock.BITS
      (map g.T.BitBlock.number (g.S.Source.reading l.fn.blocks).items)
      ((l.fn.start + l.fn.half) * g.T.BitBlock.BITS) ((l.k + l.fn.half) * g.T.BitBlock.BITS);
  items : (g.S.Source.reading l.blocks).items ≡ (g.S.Source.reading l.fn.blocks).items;
  reads : (g.S.Source.reading l.blocks).reads + l.fn.start + l.fn.start
      ≡ (g.S.Source.reading l.fn.blocks).reads + l.k + l.k;
}
