-- The fewest edges that have the closure of a graph.
use Rattle.std.specs.Prelude.{◌⊎◌, ℕ, ◌<◌, ◌≤◌, List}
use Rattle.vob_flow.specs.Closure.{Leads}
use Rattle.vob_flow.specs.Components.{AreConnected}
use Rattle.vob_flow.specs.Reach.{HasWay}

-- node n is the first of its component
abbrev pub IsFirst : List (List ℕ) → ℕ → Type 0
IsFirst next n = (m : ℕ) → AreConnected next n m → n ≤ m

-- node n is the last of its component
abbrev pub IsLast : List (List ℕ) → ℕ → Type 0
IsLast next n = (m : ℕ) → AreConnected next n m → m ≤ n

-- from the first node of a component to that of another, where no path leads through a third one
pub record IsBetween (next : List (List ℕ)) (n m : ℕ) : Type 0 where
  pub from_first : IsFirst next n
  pub to_first : IsFirst next m
  pub way : HasWay next n m
  pub apart : ¬ AreConnected next n m
  pub alone : (k : ℕ) → HasWay next n k → HasWay next k m → AreConnected next n k ⊎ AreConnected next k m

-- from a node to the next one of its component
pub record IsNext (next : List (List ℕ)) (n m : ℕ) : Type 0 where
  pub together : AreConnected next n m
  pub later : n < m
  pub none : (k : ℕ) → AreConnected next n k → n < k → m ≤ k

-- from the last node of a component that has a cycle to its first
pub record IsBack (next : List (List ℕ)) (n m : ℕ) : Type 0 where
  pub together : AreConnected next n m
  pub last : IsLast next n
  pub first : IsFirst next m
  pub cycle : Leads next n n

-- the edges of a reduction: between components, and one cycle through each that has one
abbrev pub IsReduced : List (List ℕ) → ℕ → ℕ → Type 0
IsReduced next n m = IsBetween next n m ⊎ (IsNext next n m ⊎ IsBack next n m)
