-- The columns so far have the first answers of each row.
use Rattle.std.proofs.Common.{◌≡◌, ◌<◌, ℕ, length, take}
use Rattle.vob_filter.specs.Columns.{row_at}
use Rattle.vob_filter.specs.Filter.{AreRows}
use Rattle.files_filter.specs.Blocks.{answers_at}
use Rattle.files_filter.proofs.block.columns_of.Given as goal

abbrev pub invariant-loop-comparison : goal.invariant-loop-comparison
invariant-loop-comparison l = record {
  len : AreRows (length l.rows) l.columns.items;
  each : (i : ℕ) → i < length l.rows → row_at l.columns.items i ≡ take l.comparison (answers_at l.rows i);
}
