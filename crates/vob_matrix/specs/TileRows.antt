-- Bits of the rows of a matrix that are read into words, and columns that are made of them. No public
-- clause cites this page.
use Rattle.std.specs.Prelude.{◌≡◌, ℕ, ◌+◌, ◌<◌, ◌≤◌, Bool, List}
use Rattle.vob_block.specs.Places.{place}
use Rattle.vob_matrix.specs.Matrix.{entry, HaveShapeOf}
use Rattle.vob_matrix.specs.Tiles.{word}

-- the words are bits of some rows
pub record IsLoaded (rows : List (List Bool)) (first last start end : ℕ) (words : List ℕ)
    : Type 0 where
  pub each : (k j : ℕ) → first + k < last → start + j < end →
      place j (word words k) ≡ entry rows (first + k) (start + j)

-- row i and column j are among those from one to below another
abbrev pub IsWithin : ℕ → ℕ → ℕ → ℕ → ℕ → ℕ → Type 0
IsWithin first last start end i j = (first ≤ i) × (i < last) × (start ≤ j) × (j < end)

-- bits of some rows became those of words, and no other bit changed
pub record IsStored (rows : List (List Bool)) (words : List ℕ) (first last start end : ℕ)
    (after : List (List Bool)) : Type 0 where
  pub shape : HaveShapeOf rows after
  pub each : (k j : ℕ) → start + k < end → first + j < last →
      entry after (start + k) (first + j) ≡ place j (word words k)
  pub others : (i j : ℕ) → ¬ IsWithin start end first last i j →
      entry after i j ≡ entry rows i j

-- bits of some rows became columns of other rows, and no other bit changed
pub record AreTaken (rows from : List (List Bool)) (first last start end : ℕ)
    (after : List (List Bool)) : Type 0 where
  pub shape : HaveShapeOf rows after
  pub each : (i j : ℕ) → IsWithin first last start end i j → entry after j i ≡ entry from i j
  pub others : (i j : ℕ) → ¬ IsWithin first last start end i j → entry after j i ≡ entry rows j i
