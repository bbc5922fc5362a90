-- What a Vob and its refusals are written as.
use Rattle.std.specs.Prelude.{ℕ, Bool, List, ◌++◌, map, codes}
use Rattle.std.specs.Fmt.{decimal}
use Rattle.vob_block.specs.Digits.{digit}
use Rattle.vob.specs.declared.error.VobError.{VobError}
use Rattle.vob.specs.declared.error.VobError.TheVariants as vob_error
use Rattle.vob.specs.declared.error.IndicesError.{IndicesError}
use Rattle.vob.specs.declared.error.IndicesError.TheVariants as indices_error
use Rattle.vob.specs.declared.text.DigitsError.{DigitsError}
use Rattle.vob.specs.declared.text.DigitsError.TheVariants as digits_error

-- the digits of some bits in brackets, after the name of the type
-- Example: of 101: Vob[101]
abbrev pub debug_text : List Bool → List ℕ
debug_text bits = codes "Vob[" ++ (map digit bits ++ codes "]")

-- what {} writes of each error
abbrev pub vob_error_text : VobError → List ℕ
vob_error_text vob_error.TooLong = codes "the length would pass usize::MAX"
vob_error_text vob_error.Memory = codes "out of memory"
vob_error_text vob_error.PastEnd = codes "the index is past the end"

-- of an index that is refused, with its position
abbrev pub indices_error_text : IndicesError → List ℕ
indices_error_text indices_error.Memory = codes "out of memory"
indices_error_text (indices_error.OutOfRange position) =
    codes "the index at position " ++ (decimal position ++ codes " is at or past the length")

-- of a text that is refused, with the index of the bad byte
abbrev pub digits_error_text : DigitsError → List ℕ
digits_error_text (digits_error.BadDigit index) =
    codes "neither 0 nor 1 at index " ++ decimal index
digits_error_text digits_error.Memory = codes "out of memory"
