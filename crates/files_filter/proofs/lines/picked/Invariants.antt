-- The cells at the places so far are picked.
use Rattle.std.specs.Prelude.{map}
use Rattle.std.proofs.Common.{◌≡◌, [], take}
use Rattle.csv.specs.Records.{fields_of, partial_of}
use Rattle.files_filter.specs.Answers.{cell_at}
use Rattle.files_filter.proofs.lines.picked.Given as goal

abbrev pub invariant-loop-place : goal.invariant-loop-place
invariant-loop-place l = record {
  fields : fields_of l.part ≡ map (cell_at (fields_of l.row)) (take l.place-index l.places);
  whole : partial_of l.part ≡ [];
}
