-- The column was marked but for the indices that are left.
use Rattle.std.proofs.Common.{◌≡◌}
use Rattle.vob_matrix.proofs.MatrixLemmas.{AreMarkedBut}
use Rattle.vob_matrix.proofs.matrix.mark_column.Given as goal

abbrev pub invariant-loop-row : goal.invariant-loop-row
invariant-loop-row l = record {
  can_next : (goal.iterator-loop-row).can_next l.row-iterator;
  is_finite : (goal.iterator-loop-row).is_finite l.row-iterator;
  marked : AreMarkedBut l.fn.rows.rows l.column l.bits l.row-iterator.rest l.rows.rows;
  columns : l.rows.columns ≡ l.fn.rows.columns;
}
