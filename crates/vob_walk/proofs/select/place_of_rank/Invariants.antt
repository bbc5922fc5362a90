-- The place stands from `low` to below `high`.
use Rattle.std.proofs.Common.{◌-◌, ◌<◌, ◌≤◌}
use Rattle.vob_block.specs.Places.{true_places}
use Rattle.vob_walk.proofs.select.place_of_rank.Given as goal

abbrev pub decreases-loop-high : goal.decreases-loop-high
decreases-loop-high g l = l.high - l.low

abbrev pub invariant-loop-high : goal.invariant-loop-high
invariant-loop-high g l = record {
  some : l.low < l.high;
  width : l.high ≤ g.T.BitBlock.BITS;
  least : true_places l.low (g.T.BitBlock.number l.fn.block) ≤ l.fn.rank;
  most : l.fn.rank < true_places l.high (g.T.BitBlock.number l.fn.block);
}
