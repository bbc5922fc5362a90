-- The rows hold what paths through the groups so far lead to.
use Rattle.std.proofs.Common.{◌≡◌, ◌-◌, ◌≤◌, length}
use Rattle.vob_matrix.specs.MatrixPaths.{IsClosedThrough}
use Rattle.vob_matrix.proofs.closing.close_by_table.Given as goal

abbrev pub invariant-groups : goal.invariant-groups
invariant-groups l = record {
  within : l.first ≤ l.nodes;
  table : length l.unions.rows ≡ 256;
  unions : l.unions.columns ≡ l.fn.unions.columns;
  closed : IsClosedThrough l.fn.rows.rows 0 l.first l.rows.rows;
  columns : l.rows.columns ≡ l.fn.rows.columns;
}

abbrev pub decreases-groups : goal.decreases-groups
decreases-groups l = l.nodes - l.first
