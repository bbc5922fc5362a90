-- Where a parser by arrays stops, and why.
use Rattle.std.specs.Prelude.{ℕ, ◌+◌, ◌-◌, List, length, codes}
use Rattle.vob_lr.specs.Parses.{Config}
use Rattle.vob_lr.specs.Stops.{IsStop, parse_error_text}
use Rattle.vob_arrays.specs.declared.error.ArraysError.{ArraysError}
use Rattle.vob_arrays.specs.declared.error.ArraysError.TheVariants.{NoTable, Parse}

-- why no step leads on, by the arrays of a table
abbrev pub IsStopBy : (Config → Type 0) → ℕ → Config → ArraysError → Type 0
IsStopBy Next most c NoTable = ⊥
IsStopBy Next most c (Parse error) = IsStop Next most c error

-- how many tokens and reductions are left of so many
abbrev pub left_over : ℕ → ℕ → Config → ℕ
left_over tokens most c = (tokens - c.read) + (most - length c.reduced)

-- the text of a refusal
abbrev pub arrays_error_text : ArraysError → List ℕ
arrays_error_text NoTable = codes "the arrays are no table"
arrays_error_text (Parse error) = parse_error_text error
