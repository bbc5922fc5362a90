-- The values of the rows so far are set.
use Rattle.std.proofs.Common.{◌≡◌, ◌<◌, ℕ, length}
use Rattle.vob_filter.specs.Columns.{value_at}
use Rattle.files_filter.specs.Blocks.{answers_at}
use Rattle.files_filter.proofs.block.column_of.Given as goal

abbrev pub invariant-loop-number : goal.invariant-loop-number
invariant-loop-number l = record {
  len : length l.column ≡ length l.rows;
  each : (i : ℕ) → i < l.number → value_at l.column i ≡ value_at (answers_at l.rows i) l.comparison;
}
