-- The columns so far were marked.
use Rattle.std.proofs.Common.{◌≡◌}
use Rattle.vob_matrix.proofs.MatrixLemmas.{AreMarkedBefore}
use Rattle.vob_matrix.proofs.matrix.mark_columns.Given as goal

abbrev pub invariant-loop-column : goal.invariant-loop-column
invariant-loop-column l = record {
  marked : AreMarkedBefore l.fn.rows.rows l.from.rows l.column l.rows.rows;
  columns : l.rows.columns ≡ l.fn.rows.columns;
}
