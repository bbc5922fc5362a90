-- An index that a search leaves where a number is wanted.
use Rattle.std.specs.Prelude.{ℕ, if◌then◌else◌, nat_lt, Option, Some, None}

-- an index below a number of bits is found, and that number says that there is none
-- Example: of 8 bits, 3 is Some 3, and 8 is None
abbrev pub found_below : ℕ → ℕ → Option ℕ
found_below bits i = if nat_lt i bits then Some i else None
