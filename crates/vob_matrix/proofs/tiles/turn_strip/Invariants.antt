-- The tiles so far are taken.
use Rattle.std.proofs.Common.{◌≡◌, ◌-◌, ◌≤◌}
use Rattle.vob_matrix.specs.TileRows.{AreTaken}
use Rattle.vob_matrix.proofs.tiles.turn_strip.Given as goal

abbrev pub invariant-tiles : goal.invariant-tiles
invariant-tiles l = record {
  within : l.start ≤ l.columns;
  taken : AreTaken l.fn.rows.rows l.from.rows l.first l.last 0 l.start l.rows.rows;
  columns : l.rows.columns ≡ l.fn.rows.columns;
}

abbrev pub decreases-tiles : goal.decreases-tiles
decreases-tiles l = l.columns - l.start
