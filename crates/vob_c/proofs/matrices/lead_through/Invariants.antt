-- The rows so far were led through the node.
use Rattle.vob_matrix.specs.MatrixPaths.{IsLedThrough}
use Rattle.vob_c.specs.Gains.{HaveGained}
use Rattle.vob_c.specs.Rows.{AreCanonicalRows, rows_in}
use Rattle.vob_c.proofs.matrices.lead_through.Given as goal

abbrev pub invariant-loop-row : goal.invariant-loop-row
invariant-loop-row l = record {
  canonical : AreCanonicalRows l.size l.size l.words;
  led : IsLedThrough (rows_in l.size l.size l.fn.words) l.through 0 l.row
      (rows_in l.size l.size l.words);
  gained : HaveGained l.changed (rows_in l.size l.size l.fn.words) (rows_in l.size l.size l.words);
}
