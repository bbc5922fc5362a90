-- The column was marked but for the indices that are left.
use Rattle.vob_rows.specs.Rows.{row_of}
use Rattle.vob_matrix.proofs.MatrixLemmas.{AreMarkedBut}
use Rattle.vob_c.specs.Rows.{AreCanonicalRows, rows_in}
use Rattle.vob_c.proofs.transposes.mark_column.Given as goal

abbrev pub invariant-loop-j : goal.invariant-loop-j
invariant-loop-j l = record {
  can_next : (goal.iterator-loop-j).can_next l.j-iterator;
  is_finite : (goal.iterator-loop-j).is_finite l.j-iterator;
  canonical : AreCanonicalRows l.columns l.rows l.made;
  marked : AreMarkedBut (rows_in l.columns l.rows l.fn.made) l.i
      (row_of (rows_in l.rows l.columns l.words) l.i) l.j-iterator.rest
      (rows_in l.columns l.rows l.made);
}
