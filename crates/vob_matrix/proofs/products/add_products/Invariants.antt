-- The rows have those of the groups so far.
use Rattle.std.proofs.Common.{◌≡◌, ◌-◌, ◌≤◌, length}
use Rattle.vob_matrix.specs.Unions.{AreLinked}
use Rattle.vob_matrix.proofs.products.add_products.Given as goal

abbrev pub invariant-groups : goal.invariant-groups
invariant-groups l = record {
  within : l.first ≤ length l.others.rows;
  table : length l.unions.rows ≡ length l.fn.unions.rows;
  unions : l.unions.columns ≡ l.fn.unions.columns;
  columns : l.rows.columns ≡ l.fn.rows.columns;
  linked : AreLinked l.fn.rows.rows l.by.rows l.others.rows 0 l.first l.rows.rows;
}

abbrev pub decreases-groups : goal.decreases-groups
decreases-groups l = length l.others.rows - l.first
