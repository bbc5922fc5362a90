-- The first entries are the unions of the rows so far.
use Rattle.std.proofs.Common.{◌≡◌, ◌-◌, ◌^◌, length}
use Rattle.vob_matrix.specs.Unions.{AreUnions}
use Rattle.vob_matrix.proofs.unions.fill_unions.Given as goal

abbrev pub invariant-loop-row : goal.invariant-loop-row
invariant-loop-row l = record {
  count : length l.unions.rows ≡ length l.fn.unions.rows;
  columns : l.unions.columns ≡ l.fn.unions.columns;
  width : l.width ≡ 2 ^ (l.row - l.first);
  each : AreUnions l.rows.rows l.first (l.row - l.first) l.unions.rows;
}
