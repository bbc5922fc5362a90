-- The names so far differ.
use Rattle.std.proofs.Common.{◌<◌, ℕ}
use Rattle.csv.specs.Records.{fields_of}
use Rattle.files_filter.specs.Columns.{HoldNames, IsRepeated}
use Rattle.files_filter.proofs.table.Table.check_names.Given as goal

abbrev pub invariant-loop-place : goal.invariant-loop-place
invariant-loop-place g l = record {
  names : HoldNames l.names (fields_of l.self.header) l.place;
  differ : (before : ℕ) → before < l.place → ¬ IsRepeated (fields_of l.self.header) before;
}
