-- The rows hold what paths through the nodes so far lead to.
use Rattle.std.proofs.Common.{◌≡◌}
use Rattle.vob_matrix.specs.MatrixPaths.{AreClosedWithin}
use Rattle.vob_matrix.proofs.closing.close_within.Given as goal

abbrev pub invariant-loop-through : goal.invariant-loop-through
invariant-loop-through l = record {
  closed : AreClosedWithin l.fn.rows.rows l.first l.last l.through l.rows.rows;
  columns : l.rows.columns ≡ l.fn.rows.columns;
}
