-- The nodes that had their turn led on, and the next one had none.
use Rattle.std.proofs.Common.{false}
use Rattle.vob_block.specs.Packing.{unpacking, IsCanonical}
use Rattle.vob.specs.Bits.{count_of}
use Rattle.vob_c.specs.Reached.{AreOnTheWay, IsNextTurn}
use Rattle.vob_c.specs.Rows.{rows_in}
use Rattle.vob_c.proofs.reach.spread.Given as goal

abbrev pub invariant-turns : goal.invariant-turns
invariant-turns l = record {
  reached : IsCanonical l.size l.reached 64;
  turned : IsCanonical l.size l.turned 64;
  way : AreOnTheWay (rows_in l.size l.size l.words) (unpacking l.size l.fn.reached 64)
      (unpacking l.size l.reached 64) (unpacking l.size l.turned 64);
  next : IsNextTurn l.size (unpacking l.size l.reached 64) (unpacking l.size l.turned 64) l.node;
}

abbrev pub decreases-turns : goal.decreases-turns
decreases-turns l = count_of false (unpacking l.size l.turned 64)
