-- The rows so far were led through the node.
use Rattle.std.proofs.Common.{◌≡◌}
use Rattle.vob_matrix.specs.MatrixPaths.{IsLedThrough}
use Rattle.vob_matrix.proofs.closing.lead_through.Given as goal

abbrev pub invariant-loop-row : goal.invariant-loop-row
invariant-loop-row l = record {
  led : IsLedThrough l.fn.rows.rows l.through l.first l.row l.rows.rows;
  columns : l.rows.columns ≡ l.fn.rows.columns;
}
