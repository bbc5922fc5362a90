-- The names so far are keys.
use Rattle.std.specs.Prelude.{map}
use Rattle.std.specs.String.{string_bytes}
use Rattle.std.proofs.Common.{◌≡◌, take}
use Rattle.csv.specs.Records.{fields_of}
use Rattle.files_forms.specs.Forms.{json_name}
use Rattle.files_filter.specs.Layouts.{picked}
use Rattle.files_filter.proofs.layout.keys_of.Given as goal

abbrev pub invariant-loop-number : goal.invariant-loop-number
invariant-loop-number l =
    map (λ key. string_bytes key) l.keys.items ≡ map json_name (take l.number (picked l.places (fields_of l.header)))
