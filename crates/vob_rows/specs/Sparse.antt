-- Rows of bits by the columns of their set bits.
use Rattle.std.specs.Prelude.{◌≡◌, ℕ, ◌+◌, ◌<◌, Bool, true, List, [], ◌∷◌, ◌++◌, length, map, slice_index_or, Contains}
use Rattle.std.specs.List.{flat_map}
use Rattle.std.specs.declared.ops.Bound.TheVariants.{Unbounded}
use Rattle.vob_block.specs.Packing.{unpacking}
use Rattle.vob_walk.specs.Matches.{matches}
use Rattle.vob_rows.specs.Rows.{Matrix, row_of}

-- for each row the columns of its set bits, in rising order, and how many columns there are
pub record SparseMatrix : Type 0 where
  pub rows : List (List ℕ)
  pub columns : ℕ

-- the indices of the set bits, in rising order
abbrev pub members : List Bool → List ℕ
members bits = matches bits true Unbounded Unbounded

-- the columns of the set bits of a block of 64 whose first bit is in some column
abbrev pub block_members : ℕ × ℕ → List ℕ
block_members kept = map (◌+◌ kept.0) (members (unpacking 64 (kept.1 ∷ []) 64))

-- those of some blocks, one after another
abbrev pub kept_members : List (ℕ × ℕ) → List ℕ
kept_members kept = flat_map block_members kept

-- the columns of other rows stand behind those that were there: those of row i in the row with the i-th
-- number
pub record AreWidened (before : SparseMatrix) (numbers : List ℕ) (others : Matrix) (after : SparseMatrix)
    : Type 0 where
  pub columns : after.columns ≡ before.columns + others.columns
  pub count : length after.rows ≡ length before.rows
  pub each : (i n : ℕ) → i < length numbers → slice_index_or numbers i 0 ≡ n → slice_index_or after.rows n []
      ≡ slice_index_or before.rows n [] ++ map (◌+◌ before.columns) (members (row_of others.rows i))
  pub others_stay : (n : ℕ) → (¬ Contains numbers n) →
      slice_index_or after.rows n [] ≡ slice_index_or before.rows n []
