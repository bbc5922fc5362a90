-- Commas for delimiters, and delimiters for commas.
use Rattle.std.specs.Prelude.{◌==◌, ℕ, List, Option, if◌then◌else◌, map, option_map}
use Rattle.files_csv.specs.Whole.{unread}
use Rattle.files_csv.specs.declared.whole.WholeRows.{WholeRows}
use Rattle.files_filter.specs.declared.exchanged.Exchanged.{Exchanged}

-- a comma for a delimiter, a delimiter for a comma, and each other byte for itself
abbrev pub exchange : (delimiter byte : ℕ) → ℕ
exchange delimiter byte = if byte == delimiter then 44 else (if byte == 44 then delimiter else byte)

-- what a reader that exchanges them has left
abbrev pub left_exchanged : {R : Type 0} → (R → Option (List ℕ)) → Exchanged R → Option (List ℕ)
left_exchanged remaining reader = option_map (map (exchange reader.delimiter)) (remaining reader.input)

-- what one has left that takes whole rows from between two of them
abbrev pub left_between : {R : Type 0} → (R → Option (List ℕ)) → Exchanged (WholeRows (Exchanged R)) → Option (List ℕ)
left_between remaining reader = left_exchanged (unread (left_exchanged remaining)) reader
