-- No column before has the name.
use Rattle.std.proofs.Common.{◌≢◌, ◌<◌, ℕ, Some}
use Rattle.csv.specs.Records.{field_at, fields_of}
use Rattle.files_filter.proofs.table.Table.place.Given as goal

abbrev pub invariant-loop-place : goal.invariant-loop-place
invariant-loop-place g l =
    (before : ℕ) → before < l.place → field_at (fields_of l.self.header) before ≢ Some l.name
