-- Indices that are written into an array.
use Rattle.std.specs.Prelude.{◌≡◌, ℕ, ◌<◌, ◌≤◌, List, length, min, slice_index_or}

-- an array begins with the first items of a list, as many as it has room for, and the rest stays
-- Example: of 3, 5, 8 into two places: 3, 5, and the count 2
pub record AreFirst (list before after : List ℕ) (count : ℕ) : Type 0 where
  pub count_is : count ≡ min (length before) (length list)
  pub long : length after ≡ length before
  pub first : (k : ℕ) → k < count → slice_index_or after k 0 ≡ slice_index_or list k 0
  pub rest : (k : ℕ) → count ≤ k → slice_index_or after k 0 ≡ slice_index_or before k 0
