-- The nodes of a graph to which paths lead from some of them.
use Rattle.std.specs.Prelude.{◌≡◌, ◌↔◌, ◌⊎◌, ℕ, ◌<◌, ◌≤◌, Bool, true, false, List}
use Rattle.vob_block.specs.Packing.{item}
use Rattle.vob_matrix.specs.Matrix.{HasPath, IsEdge}

-- node j is one of some, or a path leads to it from one of them
abbrev pub IsReachedFrom : List (List Bool) → List Bool → ℕ → Type 0
IsReachedFrom rows from j =
    (item from j ≡ true) ⊎ ((i : ℕ) × (item from i ≡ true) × HasPath rows i j)

-- a set of exactly these nodes
abbrev pub AreReachedFrom : List (List Bool) → List Bool → List Bool → Type 0
AreReachedFrom rows from after = (j : ℕ) → (item after j ≡ true) ↔ IsReachedFrom rows from j

-- of the nodes that were reached, those that had their turn led on to nodes that were reached too
pub record AreOnTheWay (rows : List (List Bool)) (from reached turned : List Bool) : Type 0 where
  pub kept : (j : ℕ) → item from j ≡ true → item reached j ≡ true
  pub sound : (j : ℕ) → item reached j ≡ true → IsReachedFrom rows from j
  pub led : (j : ℕ) → item turned j ≡ true → (m : ℕ) → IsEdge rows j m → item reached m ≡ true

-- a node that was reached and had no turn, and the number of nodes if there is none
pub record IsNextTurn (size : ℕ) (reached turned : List Bool) (node : ℕ) : Type 0 where
  pub found : node < size → (item reached node ≡ true) × (item turned node ≡ false)
  pub none : size ≤ node → (j : ℕ) → item reached j ≡ true → item turned j ≡ true
