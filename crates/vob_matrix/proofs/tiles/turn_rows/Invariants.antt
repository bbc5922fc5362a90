-- The strips so far are taken.
use Rattle.std.proofs.Common.{◌≡◌, ◌-◌, ◌≤◌, length}
use Rattle.vob_matrix.specs.TileRows.{AreTaken}
use Rattle.vob_matrix.proofs.tiles.turn_rows.Given as goal

abbrev pub invariant-strips : goal.invariant-strips
invariant-strips l = record {
  within : l.first ≤ length l.from.rows;
  taken : AreTaken l.fn.rows.rows l.from.rows 0 l.first 0 (length l.rows.rows) l.rows.rows;
  columns : l.rows.columns ≡ l.fn.rows.columns;
}

abbrev pub decreases-strips : goal.decreases-strips
decreases-strips l = length l.from.rows - l.first
