-- How a closure is made, one component after another. No public clause cites this page.
use Rattle.std.specs.Prelude.{◌≡◌, ◌≢◌, ◌↔◌, ◌⊎◌, ℕ, Bool, List, Contains}
use Rattle.vob_flow.specs.Closure.{IsEdge, Leads}
use Rattle.vob_flow.specs.Components.{IsAmong, component_of}
use Rattle.vob_flow.specs.Draws.{IsIn}

-- v is at the root of another component that one of some nodes is in
abbrev pub IsDrawnBy : List (List Bool) → List ℕ → ℕ → List ℕ → ℕ → Type 0
IsDrawnBy sets roots root ends v = (end : ℕ) × Contains ends end
    × (component_of roots end ≢ root) × IsIn sets (component_of roots end) v

-- an edge from node n leads to v, or to another component from which a path leads to v
abbrev pub IsLedTo : List (List ℕ) → List ℕ → ℕ → ℕ → Type 0
IsLedTo next roots n v = (end : ℕ) × IsEdge next n end
    × ((end ≡ v) ⊎ ((component_of roots end ≢ component_of roots n) × Leads next end v))

-- the set at each root has where the nodes of its component lead that are among the first k of some
abbrev pub AreDrawn : List (List ℕ) → List ℕ → List ℕ → ℕ → List (List Bool) → Type 0
AreDrawn next roots nodes k sets = (x v : ℕ) → IsIn sets x v
    ↔ ((n : ℕ) × IsAmong k nodes n × (component_of roots n ≡ x) × IsLedTo next roots n v)
