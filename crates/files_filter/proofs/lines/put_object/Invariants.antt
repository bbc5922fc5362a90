-- The members from a number on are still to be written.
use Rattle.std.specs.Prelude.{codes, map}
use Rattle.std.specs.List.{range_with_len}
use Rattle.std.specs.String.{string_bytes}
use Rattle.std.proofs.Common.{Option, List, ℕ, ◌-◌, length}
use Rattle.std.specs.Io.KnownBytes.{Appends}
use Rattle.csv.specs.Records.{fields_of}
use Rattle.files_text.proofs.PrintedLemmas.{AppendsItems}
use Rattle.files_filter.specs.Layouts.{member_text, picked}
use Rattle.files_filter.proofs.lines.put_object.Given as goal

abbrev pub invariant-loop-number : goal.invariant-loop-number
invariant-loop-number g l = (begun : Option (List ℕ)) × Appends (g.W.Write.contents l.fn.output) begun (codes "{")
    × AppendsItems (member_text (map (λ key. string_bytes key) l.keys) (picked l.layout.places (fields_of l.row)))
    begun (g.W.Write.contents l.output) (range_with_len 0 (length l.keys)) (range_with_len l.number (length l.keys - l.number))
