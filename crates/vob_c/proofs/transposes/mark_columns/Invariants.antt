-- The columns so far were marked.
use Rattle.vob_matrix.proofs.MatrixLemmas.{AreMarkedBefore}
use Rattle.vob_c.specs.Rows.{AreCanonicalRows, rows_in}
use Rattle.vob_c.proofs.transposes.mark_columns.Given as goal

abbrev pub invariant-loop-i : goal.invariant-loop-i
invariant-loop-i l = record {
  canonical : AreCanonicalRows l.columns l.rows l.made;
  marked : AreMarkedBefore (rows_in l.columns l.rows l.fn.made) (rows_in l.rows l.columns l.words)
      l.i (rows_in l.columns l.rows l.made);
}
