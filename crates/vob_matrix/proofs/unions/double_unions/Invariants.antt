-- The entries so far are unions.
use Rattle.std.proofs.Common.{◌≡◌}
use Rattle.vob_matrix.specs.Unions.{AreDoubled}
use Rattle.vob_matrix.proofs.unions.double_unions.Given as goal

abbrev pub invariant-loop-entry : goal.invariant-loop-entry
invariant-loop-entry l = record {
  doubled : AreDoubled l.fn.unions.rows l.width l.entry l.row l.unions.rows;
  columns : l.unions.columns ≡ l.fn.unions.columns;
}
