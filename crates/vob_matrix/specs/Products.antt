-- Products and powers of matrices of bits: where one edge leads after another.
use Rattle.std.specs.Prelude.{◌≡◌, ◌↔◌, ◌≢◌, ℕ, zero, suc, ◌<◌, Bool, true, List, length}
use Rattle.vob.specs.Vobs.{AreOfLength}
use Rattle.vob_rows.specs.Rows.{Matrix}
use Rattle.vob_matrix.specs.Matrix.{entry, HaveShapeOf, IsEdge, AreClosed}

-- n rows and columns, and an edge from each node to itself alone
pub record IsIdentity (n : ℕ) (after : Matrix) : Type 0 where
  pub count : length after.rows ≡ n
  pub columns : after.columns ≡ n
  pub each : (i j : ℕ) → IsEdge after.rows i j ↔ ((i ≡ j) × (i < n))

-- an edge leads from node i to a node, and one of others on to node j
abbrev pub HasTwoEdges : List (List Bool) → List (List Bool) → ℕ → ℕ → Type 0
HasTwoEdges rows others i j = (k : ℕ) × IsEdge rows i k × IsEdge others k j

-- an edge wherever one of the first matrix and one of the second led, and nowhere else
pub record IsProduct (first second after : Matrix) : Type 0 where
  pub count : length after.rows ≡ length first.rows
  pub columns : after.columns ≡ second.columns
  pub each : (i j : ℕ) → IsEdge after.rows i j ↔ HasTwoEdges first.rows second.rows i j

-- a path of exactly n edges leads from node i to node j
abbrev pub HasPathOf : ℕ → List (List Bool) → ℕ → ℕ → Type 0
HasPathOf zero rows i j = (i ≡ j) × (i < length rows)
HasPathOf (suc n) rows i j = (k : ℕ) × IsEdge rows i k × HasPathOf n rows k j

-- an edge wherever there was a path of exactly n edges, and nowhere else
pub record IsPower (matrix : Matrix) (n : ℕ) (after : Matrix) : Type 0 where
  pub count : length after.rows ≡ length matrix.rows
  pub columns : after.columns ≡ matrix.columns
  pub each : (i j : ℕ) → IsEdge after.rows i j ↔ HasPathOf n matrix.rows i j

-- The law: a closure has an edge exactly where some power above 0 has it.
abbrev pub ClosureIsOfPowers : Type 0
ClosureIsOfPowers =
    (matrix : Matrix) (after : List (List Bool)) (power : ℕ → Matrix)
    → length matrix.rows ≡ matrix.columns → AreOfLength matrix.columns matrix.rows
    → AreClosed matrix.rows after → ((n : ℕ) → IsPower matrix n (power n))
    → (i j : ℕ) → IsEdge after i j ↔ ((n : ℕ) × (0 < n) × IsEdge (power n).rows i j)

-- the entries (i, i) were made true, and no other changed
pub record IsDiagonalMarked (rows : List (List Bool)) (after : List (List Bool)) : Type 0 where
  pub shape : HaveShapeOf rows after
  pub there : (i : ℕ) → i < length rows → entry after i i ≡ true
  pub others : (i j : ℕ) → i ≢ j → entry after i j ≡ entry rows i j
