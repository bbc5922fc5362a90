-- Rows of bits, all of one length.
use Rattle.std.specs.Prelude.{◌==◌, ◌&&◌, ℕ, Bool, List, [], slice_index_or}
use Rattle.std.specs.Cmp.Lexicographic.{pointwise}
use Rattle.vob.specs.Same.{same_bits}

-- the rows in their order, and how many bits each has, also if there is no row
pub record Matrix : Type 0 where
  pub rows : List (List Bool)
  pub columns : ℕ

-- row i, without a bit past the last row
abbrev pub row_of : List (List Bool) → ℕ → List Bool
row_of rows i = slice_index_or rows i []

-- whether two have as many columns and the same rows
abbrev pub same_matrix : Matrix → Matrix → Bool
same_matrix matrix other =
    matrix.columns == other.columns && pointwise same_bits matrix.rows other.rows
