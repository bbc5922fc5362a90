-- Rows of bits in one array of words, each from a word of its own on.
use Rattle.std.specs.Prelude.{◌≡◌, ℕ, ◌+◌, ◌*◌, ◌<◌, Bool, List, length, map}
use Rattle.std.specs.List.{between, range_with_len}
use Rattle.vob_block.specs.Packing.{need, unpacking, IsCanonical}
use Rattle.vob_rows.specs.Rows.{Matrix}

-- as many words as some rows of some columns need
-- Example: 3 rows of 65 columns need 6
abbrev pub HasRowWords : ℕ → ℕ → List ℕ → Type 0
HasRowWords rows columns words = length words ≡ rows * need columns 64

-- the words of row i
-- Example: of 65 columns in 5, 0, 6, 1: row 1 is 6, 1
abbrev pub row_words : ℕ → List ℕ → ℕ → List ℕ
row_words columns words i =
    between (i * need columns 64) (i * need columns 64 + need columns 64) words

-- as many words, and those of each row are canonical
pub record AreCanonicalRows (rows columns : ℕ) (words : List ℕ) : Type 0 where
  pub count : HasRowWords rows columns words
  pub each : (i : ℕ) → i < rows → IsCanonical columns (row_words columns words i) 64

-- the bits of each row
unfoldable pub rows_in : ℕ → ℕ → List ℕ → List (List Bool)
rows_in rows columns words =
    map (λ i. unpacking columns (row_words columns words i) 64) (range_with_len 0 rows)

-- the same with the number of columns
abbrev pub matrix_in : ℕ → ℕ → List ℕ → Matrix
matrix_in rows columns words = record { rows = rows_in rows columns words; columns = columns }
