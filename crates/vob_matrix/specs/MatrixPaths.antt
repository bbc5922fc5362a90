-- Paths through some nodes alone, which a closure adds group by group. No public clause cites this page.
use Rattle.std.specs.Prelude.{◌≡◌, ◌↔◌, ◌⊎◌, ℕ, ◌<◌, ◌≤◌, Bool, ◌||◌, ◌&&◌, List, [], ◌∷◌}
use Rattle.vob_matrix.specs.Matrix.{entry, HaveShapeOf, IsEdge, IsPath}

-- nodes from `first` to below `last`
abbrev pub AreWithin : ℕ → ℕ → List ℕ → Type 0
AreWithin first last [] = Unit {0}
AreWithin first last (x ∷ xs) = (first ≤ x) × (x < last) × AreWithin first last xs

-- a path through such nodes alone leads from node i to node j
abbrev pub HasPathWithin : List (List Bool) → ℕ → ℕ → ℕ → ℕ → Type 0
HasPathWithin rows first last i j =
    (through : List ℕ) × AreWithin first last through × IsPath rows i through j

-- row k was added to each row from `first` to below `last` with an edge to node k
pub record IsLedThrough (rows : List (List Bool)) (k first last : ℕ) (after : List (List Bool))
    : Type 0 where
  pub shape : HaveShapeOf rows after
  pub each : (i j : ℕ) → first ≤ i → i < last →
      entry after i j ≡ (entry rows i j || (entry rows i k && entry rows k j))
  pub others : (i j : ℕ) → (i < first) ⊎ (last ≤ i) → entry after i j ≡ entry rows i j

-- an edge from each node from `first` to below `last`, wherever there was a path through nodes from
-- `first` to below `end`
pub record AreClosedWithin (rows : List (List Bool)) (first last end : ℕ)
    (after : List (List Bool)) : Type 0 where
  pub shape : HaveShapeOf rows after
  pub each : (i j : ℕ) → first ≤ i → i < last →
      IsEdge after i j ↔ HasPathWithin rows first end i j
  pub others : (i j : ℕ) → (i < first) ⊎ (last ≤ i) → entry after i j ≡ entry rows i j

-- an edge from each node, wherever there was such a path
pub record IsClosedThrough (rows : List (List Bool)) (first last : ℕ) (after : List (List Bool))
    : Type 0 where
  pub shape : HaveShapeOf rows after
  pub each : (i j : ℕ) → IsEdge after i j ↔ HasPathWithin rows first last i j
