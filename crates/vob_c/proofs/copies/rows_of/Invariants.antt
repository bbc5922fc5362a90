-- The rows so far are those of the words.
use Rattle.std.proofs.Common.{◌≡◌, ◌≤◌}
use Rattle.vob_c.specs.Copies.{AreTaken}
use Rattle.vob_c.specs.Rows.{rows_in}
use Rattle.vob_c.proofs.copies.rows_of.Given as goal

abbrev pub invariant-loop-i : goal.invariant-loop-i
invariant-loop-i l = record {
  taken : AreTaken (rows_in l.fn.shape.rows l.fn.shape.columns l.words) l.fn.shape.columns l.made.rows l.i;
  columns : l.made.columns ≡ l.fn.shape.columns;
  room : l.fn.shape.columns ≤ l.room.capacity;
}
