-- Unions of some rows of a matrix, each named by a number. No public clause cites this page.
use Rattle.std.specs.Prelude.{◌≡◌, ◌≢◌, ◌↔◌, ◌⊎◌, ℕ, ◌+◌, ◌^◌, ◌<◌, ◌≤◌, Bool, true, ◌||◌, List}
use Rattle.vob_block.specs.Packing.{item}
use Rattle.vob_block.specs.Places.{place}
use Rattle.vob_matrix.specs.Matrix.{entry, HaveShapeOf, IsEdge}

-- entry m of a table was made the union of another entry and a row, and no other changed
pub record IsUnionSet (unions : List (List Bool)) (m other : ℕ) (row : List Bool)
    (after : List (List Bool)) : Type 0 where
  pub shape : HaveShapeOf unions after
  pub there : (j : ℕ) → entry after m j ≡ (entry unions other j || item row j)
  pub others : (l j : ℕ) → l ≢ m → entry after l j ≡ entry unions l j

-- so were `count` entries from entry `width` on, each with the one `width` before it
pub record AreDoubled (unions : List (List Bool)) (width count : ℕ) (row : List Bool)
    (after : List (List Bool)) : Type 0 where
  pub shape : HaveShapeOf unions after
  pub there : (m j : ℕ) → m < count →
      entry after (width + m) j ≡ (entry unions m j || item row j)
  pub others : (l j : ℕ) → (l < width) ⊎ (width + count ≤ l) →
      entry after l j ≡ entry unions l j

-- one of `count` rows from row `first` on has bit j, and a number names it by its place
abbrev pub IsNamed : List (List Bool) → ℕ → ℕ → ℕ → ℕ → Type 0
IsNamed rows first count m j =
    (t : ℕ) × (t < count) × (place t m ≡ true) × IsEdge rows (first + t) j

-- entry m of a table is the union of the rows that m names
pub record AreUnions (rows : List (List Bool)) (first count : ℕ) (unions : List (List Bool))
    : Type 0 where
  pub each : (m j : ℕ) → m < 2 ^ count → IsEdge unions m j ↔ IsNamed rows first count m j

-- an edge leads from node i to a node from `first` to below `last`, and one of others on to node j
abbrev pub HasLink : List (List Bool) → List (List Bool) → ℕ → ℕ → ℕ → ℕ → Type 0
HasLink rows others first last i j =
    (k : ℕ) × (first ≤ k) × (k < last) × IsEdge rows i k × IsEdge others k j

-- each row of some got the rows of others that its row of `rows` leads to between these nodes
pub record AreLinked (some rows others : List (List Bool)) (first last : ℕ)
    (after : List (List Bool)) : Type 0 where
  pub shape : HaveShapeOf some after
  pub each : (i j : ℕ) →
      IsEdge after i j ↔ (IsEdge some i j ⊎ HasLink rows others first last i j)
