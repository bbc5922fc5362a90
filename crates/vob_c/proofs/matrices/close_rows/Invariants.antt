-- The rows hold what paths through the nodes so far lead to.
use Rattle.vob_matrix.specs.MatrixPaths.{AreClosedWithin}
use Rattle.vob_c.specs.Gains.{HaveGained}
use Rattle.vob_c.specs.Rows.{AreCanonicalRows, rows_in}
use Rattle.vob_c.proofs.matrices.close_rows.Given as goal

abbrev pub invariant-loop-through : goal.invariant-loop-through
invariant-loop-through l = record {
  canonical : AreCanonicalRows l.size l.size l.words;
  closed : AreClosedWithin (rows_in l.size l.size l.fn.words) 0 l.size l.through
      (rows_in l.size l.size l.words);
  gained : HaveGained l.changed (rows_in l.size l.size l.fn.words) (rows_in l.size l.size l.words);
}
