-- The rows so far are linked, by whatever rows the table has the unions of.
use Rattle.std.proofs.Common.{◌≡◌, ◌-◌, List, Bool}
use Rattle.vob_matrix.specs.Matrix.{HaveShapeOf}
use Rattle.vob_matrix.specs.Unions.{AreUnions}
use Rattle.vob_matrix.proofs.UnionLemmas.{AreLinkedBefore}
use Rattle.vob_matrix.proofs.unions.link_rows.Given as goal

abbrev pub invariant-loop-row : goal.invariant-loop-row
invariant-loop-row l = record {
  shape : HaveShapeOf l.fn.rows.rows l.rows.rows;
  columns : l.rows.columns ≡ l.fn.rows.columns;
  linked : (others : List (List Bool)) →
      AreUnions others l.first (l.last - l.first) l.unions.rows →
      AreLinkedBefore l.fn.rows.rows l.fn.rows.rows others l.first l.last l.row l.rows.rows;
}
