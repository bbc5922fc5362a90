-- The rows with the numbers that are left are still to be written.
use Rattle.std.specs.Prelude.{map}
use Rattle.std.specs.String.{string_bytes}
use Rattle.std.proofs.Common.{[], Some, drop}
use Rattle.files_filter.specs.Layouts.{object_line, picked}
use Rattle.files_filter.specs.Written.{cells_of}
use Rattle.files_text.proofs.PrintedLemmas.{AppendsItems}
use Rattle.files_filter.proofs.lines.objects_of.Given as goal

abbrev pub invariant-loop-number : goal.invariant-loop-number
invariant-loop-number l =
    AppendsItems (λ number. object_line (map (λ key. string_bytes key) l.keys) (picked l.layout.places (cells_of l.rows number)))
    (Some []) (Some l.text.items) l.numbers (drop l.number-index l.numbers)
