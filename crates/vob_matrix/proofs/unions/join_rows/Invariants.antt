-- The rows so far are joined.
use Rattle.std.proofs.Common.{◌≡◌}
use Rattle.vob_matrix.proofs.JoinLemmas.{AreJoinedBefore}
use Rattle.vob_matrix.proofs.unions.join_rows.Given as goal

abbrev pub invariant-loop-row : goal.invariant-loop-row
invariant-loop-row l = record {
  joined : AreJoinedBefore l.fn.rows.rows l.others.rows l.row l.changed l.rows.rows;
  columns : l.rows.columns ≡ l.fn.rows.columns;
}
