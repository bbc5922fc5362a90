-- Which definitions reach the start and the end of each node of a flow graph. The edges of a node lead to
-- the nodes that come before it, and its mask lets through what isn't killed there.
use Rattle.std.specs.Prelude.{◌≡◌, ◌↔◌, ◌⊎◌, ℕ, Bool, true, List, length}
use Rattle.vob_flow.specs.Draws.{AreWithin, HaveShape, IsIn}
use Rattle.vob_flow.specs.Gathered.{AreGathered}

-- what reaches the end of a node that comes before reaches the start; what a node generates, or what
-- reaches its start and isn't killed there, reaches its end
pub record AreFlowing (before : List (List ℕ)) (mask : ℕ → ℕ → Bool)
    (gens starts ends : List (List Bool)) : Type 0 where
  pub starts_are : AreGathered before ends starts
  pub count : length ends ≡ length gens
  pub ends_are : (n v : ℕ) → IsIn ends n v ↔ (IsIn gens n v ⊎ (IsIn starts n v × (mask n v ≡ true)))

-- the least sets that meet both equations, as many and as long as what the nodes generate
pub record AreReaching (before : List (List ℕ)) (mask : ℕ → ℕ → Bool)
    (gens starts ends : List (List Bool)) : Type 0 where
  pub starts_shape : HaveShape gens starts
  pub ends_shape : HaveShape gens ends
  pub flowing : AreFlowing before mask gens starts ends
  pub least : (others other_ends : List (List Bool)) →
      AreFlowing before mask gens others other_ends →
      AreWithin starts others × AreWithin ends other_ends
