-- The strong components of a graph, numbered.
use Rattle.std.specs.Prelude.{◌≡◌, ◌≢◌, ◌↔◌, ◌⊎◌, ℕ, ◌+◌, ◌-◌, ◌<◌, ◌≤◌, List, length, slice_index_or, slice_set}
use Rattle.vob_flow.specs.Closure.{IsEdge}
use Rattle.vob_flow.specs.Components.{AreConnected, component_of}

-- all numbers below a count are in use, each for the nodes of one component; no edge leads to a component of
-- a higher number
pub record AreNumbered (lists : List (List ℕ)) (component : List ℕ) (count : ℕ) : Type 0 where
  pub long : length component ≡ length lists
  pub below : (n : ℕ) → n < length lists → component_of component n < count
  pub used : (k : ℕ) → k < count → (n : ℕ) × (n < length lists) × (component_of component n ≡ k)
  pub same : (n m : ℕ) → n < length lists → m < length lists →
      (component_of component n ≡ component_of component m) ↔ AreConnected lists n m
  pub falls : (n m : ℕ) → n < length lists → m < length lists → IsEdge lists n m →
      component_of component m ≤ component_of component n

-- ---- how they are found: no public clause cites what follows

-- the number of a root
abbrev pub number_of : List ℕ → ℕ → ℕ
number_of numbers root = slice_index_or numbers root 0

-- a root that has no number, which is as large as their length, gets the next one
pub record IsGiven (numbers : List ℕ) (root count : ℕ) (after : List ℕ) (next : ℕ) : Type 0 where
  pub kept : number_of numbers root ≢ length numbers → (after ≡ numbers) × (next ≡ count)
  pub given : number_of numbers root ≡ length numbers
      → (after ≡ slice_set numbers root count) × (next ≡ count + 1)

-- the root of the node at a place
abbrev pub root_at : List ℕ → List ℕ → ℕ → ℕ
root_at roots nodes i = slice_index_or roots (slice_index_or nodes i 0) 0

-- the roots of the nodes from place k on have numbers, which rise along edges
pub record HaveNumbers (lists : List (List ℕ)) (roots nodes : List ℕ) (k : ℕ) (numbers : List ℕ) (count : ℕ)
    : Type 0 where
  pub long : length numbers ≡ length lists
  pub few : count + k ≤ length nodes
  pub given : (r : ℕ) → r < length lists → number_of numbers r ≢ length lists →
      (number_of numbers r < count)
      × ((i : ℕ) × (k ≤ i) × (i < length nodes) × (root_at roots nodes i ≡ r))
  pub listed : (i : ℕ) → k ≤ i → i < length nodes →
      number_of numbers (root_at roots nodes i) ≢ length lists
  pub used : (j : ℕ) → j < count → (r : ℕ) × (r < length lists) × (number_of numbers r ≡ j)
  pub apart : (r s : ℕ) → r < length lists → s < length lists → number_of numbers r ≢ length lists →
      number_of numbers r ≡ number_of numbers s → r ≡ s
  pub rises : (i m : ℕ) → k ≤ i → i < length nodes → m < length lists →
      IsEdge lists (slice_index_or nodes i 0) m → component_of roots m ≢ root_at roots nodes i →
      (number_of numbers (component_of roots m) ≡ length lists)
      ⊎ (number_of numbers (root_at roots nodes i) < number_of numbers (component_of roots m))

-- each node's number is that of its root, counted from the last one back
abbrev pub AreTurned : List ℕ → List ℕ → ℕ → List ℕ → Type 0
AreTurned roots numbers count component = (n : ℕ) → n < length roots →
    component_of component n ≡ count - 1 - number_of numbers (component_of roots n)
