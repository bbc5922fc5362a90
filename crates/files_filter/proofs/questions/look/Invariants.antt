-- The guards so far have seen the row, and the others haven't.
use Rattle.std.proofs.Common.{◌++◌, ◌∷◌, [], All, List, length}
use Rattle.std.specs.List.{AllWithin}
use Rattle.csv.specs.Records.{fields_of}
use Rattle.files_filter.specs.Reading.{Cells}
use Rattle.files_filter.specs.Watching.{IsWatched}
use Rattle.files_filter.specs.declared.comparing.Test.{Test}
use Rattle.files_filter.proofs.questions.look.Given as goal

abbrev pub invariant-loop-guard : goal.invariant-loop-guard
invariant-loop-guard g l = (rows : List Cells) (tests : List Test) →
    All (IsWatched (fields_of l.table.header) rows tests) l.fn.guards →
    AllWithin (IsWatched (fields_of l.table.header) (rows ++ fields_of l.row ∷ []) tests) l.guards 0 l.guard-index
    × AllWithin (IsWatched (fields_of l.table.header) rows tests) l.guards l.guard-index (length l.guards)
