-- The words so far are written.
use Rattle.std.proofs.Common.{◌≡◌, ◌+◌}
use Rattle.vob_matrix.specs.TileRows.{IsStored}
use Rattle.vob_matrix.proofs.tiles.store_words.Given as goal

abbrev pub invariant-loop-k : goal.invariant-loop-k
invariant-loop-k l = record {
  stored : IsStored l.fn.rows.rows l.words l.first l.last l.start (l.start + l.k) l.rows.rows;
  columns : l.rows.columns ≡ l.fn.rows.columns;
}
