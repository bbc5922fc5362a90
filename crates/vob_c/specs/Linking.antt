-- Rows that get those of others, one row after another. No public clause cites this page.
use Rattle.std.specs.Prelude.{◌≡◌, ◌≢◌, ◌↔◌, ◌⊎◌, ℕ, ◌<◌, ◌≤◌, Bool, List}
use Rattle.vob_matrix.specs.Matrix.{entry, HaveShapeOf, IsEdge}
use Rattle.vob_matrix.specs.Unions.{HasLink}

-- row i got the rows of others that its row of `rows` names below number k
pub record IsRowLinked (before rows others : List (List Bool)) (i k : ℕ) (after : List (List Bool))
    : Type 0 where
  pub shape : HaveShapeOf before after
  pub there : (j : ℕ) → IsEdge after i j ↔ (IsEdge before i j ⊎ HasLink rows others 0 k i j)
  pub others_stay : (l j : ℕ) → l ≢ i → entry after l j ≡ entry before l j

-- so did the rows before row n, each all that it names
pub record AreRowsLinked (before rows others : List (List Bool)) (k n : ℕ)
    (after : List (List Bool)) : Type 0 where
  pub shape : HaveShapeOf before after
  pub done : (i j : ℕ) → i < n → IsEdge after i j ↔ (IsEdge before i j ⊎ HasLink rows others 0 k i j)
  pub left : (i j : ℕ) → n ≤ i → entry after i j ≡ entry before i j
