-- Where the paths of a graph lead. Node n's list names the nodes that edges from it lead to.
use Rattle.std.specs.Prelude.{◌≡◌, ◌↔◌, ℕ, Bool, List, [], length, slice_index_or, Contains}
use Rattle.vob.specs.Vobs.{AreOfLength}
use Rattle.vob_flow.specs.Draws.{IsIn}

-- an edge leads from node n to node m
abbrev pub IsEdge : List (List ℕ) → ℕ → ℕ → Type 0
IsEdge next n m = Contains (slice_index_or next n []) m

-- a path of one edge or more leads from node n to node m
pub data Leads (next : List (List ℕ)) : ℕ → ℕ → Type 0 where
  by_edge : {n m : ℕ} → IsEdge next n m → Leads next n m
  through : {n k m : ℕ} → IsEdge next n k → Leads next k m → Leads next n m

-- a set for each node of the nodes that such a path leads to
pub record IsClosure (next : List (List ℕ)) (sets : List (List Bool)) : Type 0 where
  pub count : length sets ≡ length next
  pub long : AreOfLength (length next) sets
  pub each : (n m : ℕ) → IsIn sets n m ↔ Leads next n m
