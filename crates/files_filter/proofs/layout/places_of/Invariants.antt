-- The names so far have their places.
use Rattle.std.specs.List.{AllZip}
use Rattle.std.proofs.Common.{take}
use Rattle.csv.specs.Records.{fields_of}
use Rattle.files_filter.specs.Columns.{IsColumn}
use Rattle.files_filter.proofs.layout.places_of.Given as goal

abbrev pub invariant-loop-name : goal.invariant-loop-name
invariant-loop-name g l =
    AllZip (λ name place. IsColumn (fields_of l.table.header) name.now place) (take l.name-index l.names) l.places.items
