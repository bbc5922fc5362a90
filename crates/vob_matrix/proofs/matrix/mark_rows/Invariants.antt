-- The bits of the rows so far are made.
use Rattle.vob_matrix.proofs.MatrixLemmas.{AreUnitedBefore}
use Rattle.vob_matrix.proofs.matrix.mark_rows.Given as goal

abbrev pub invariant-loop-row : goal.invariant-loop-row
invariant-loop-row l =
    AreUnitedBefore l.rows.rows l.fn.columns.bits l.row l.fn.made.bits l.made.bits
