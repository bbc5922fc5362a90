-- The bits outside of those that are left are in reverse order, and these are as they were.
use Rattle.std.proofs.Common.{◌-◌, ◌≤◌, map}
use Rattle.vob_store.proofs.ReversingLemmas.{AreTurned}
use Rattle.vob_store.proofs.reverse.reverse_bits_between.Given as goal

abbrev pub invariant-loop-high : goal.invariant-loop-high
invariant-loop-high g l = record {
  order : l.low ≤ l.high;
  turned : AreTurned g.T.BitBlock.BITS l.start l.end l.low l.high
      (map g.T.BitBlock.number l.fn.own) (map g.T.BitBlock.number l.own);
}

abbrev pub decreases-loop-high : goal.decreases-loop-high
decreases-loop-high g l = l.high - l.low
