-- The entries of the rows so far are marked.
use Rattle.std.proofs.Common.{◌≡◌, ◌≢◌, ℕ, ◌<◌, true}
use Rattle.vob_matrix.specs.Matrix.{entry, HaveShapeOf}
use Rattle.vob_matrix.proofs.products.mark_diagonal.Given as goal

abbrev pub invariant-loop-row : goal.invariant-loop-row
invariant-loop-row l = record {
  shape : HaveShapeOf l.fn.rows.rows l.rows.rows;
  columns : l.rows.columns ≡ l.fn.rows.columns;
  there : (i : ℕ) → i < l.row → entry l.rows.rows i i ≡ true;
  others : (i j : ℕ) → i ≢ j → entry l.rows.rows i j ≡ entry l.fn.rows.rows i j;
}
