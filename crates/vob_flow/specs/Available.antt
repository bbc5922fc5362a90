-- What holds on all paths of a flow graph: available and very busy expressions. Each node draws from the
-- far sides of the nodes that its edges lead to, and its mask lets through what isn't killed.
use Rattle.std.specs.Prelude.{◌≡◌, ◌↔◌, ◌⊎◌, ℕ, ◌<◌, Bool, true, List, [], length, slice_index_or, Option, Some, None}
use Rattle.vob_flow.specs.Draws.{IsIn, HaveShape}
use Rattle.vob_flow.specs.Greatest.{IsInAll}

-- node n is the entry, if there is one
abbrev pub IsEntry : Option ℕ → ℕ → Type 0
IsEntry None n = ⊥
IsEntry (Some entry) n = n ≡ entry

-- the near side of a node has what the far side of each node has that it draws from, but nothing at
-- the entry; the far side has what the node generates, or what the near side has and isn't killed
pub record AreFlowingOnAll (places : ℕ) (entry : Option ℕ) (next : List (List ℕ)) (mask : ℕ → ℕ → Bool)
    (gens near far : List (List Bool)) : Type 0 where
  pub near_count : length near ≡ length next
  pub near_is : (n v : ℕ) → n < length next → v < places → (¬ IsEntry entry n) →
      IsIn near n v ↔ IsInAll far (slice_index_or next n []) v
  pub at_entry : (n v : ℕ) → IsEntry entry n → ¬ IsIn near n v
  pub far_count : length far ≡ length gens
  pub far_is : (n v : ℕ) → v < places →
      IsIn far n v ↔ (IsIn gens n v ⊎ (IsIn near n v × (mask n v ≡ true)))

-- what is in the first sets at these places is in the second
abbrev pub AreWithinPlaces : ℕ → List (List Bool) → List (List Bool) → Type 0
AreWithinPlaces places sets others =
    (n v : ℕ) → v < places → IsIn sets n v → IsIn others n v

-- the greatest sets that meet both equations, each with a bit for each of the places
pub record HoldOnAll (places : ℕ) (entry : Option ℕ) (next : List (List ℕ)) (mask : ℕ → ℕ → Bool)
    (gens near far : List (List Bool)) : Type 0 where
  pub near_shape : HaveShape gens near
  pub far_shape : HaveShape gens far
  pub flowing : AreFlowingOnAll places entry next mask gens near far
  pub greatest : (others other_far : List (List Bool)) →
      AreFlowingOnAll places entry next mask gens others other_far →
      AreWithinPlaces places others near × AreWithinPlaces places other_far far

-- what is available at the start and the end of each node: on each path to it from the entry, where
-- nothing is
abbrev pub AreAvailable : ℕ → ℕ → List (List ℕ) → (ℕ → ℕ → Bool) → List (List Bool) →
    List (List Bool) → List (List Bool) → Type 0
AreAvailable places entry before mask gens starts ends =
    HoldOnAll places (Some entry) before mask gens starts ends

-- what is very busy at the start and the end of each node: on each path from it
abbrev pub AreVeryBusy : ℕ → List (List ℕ) → (ℕ → ℕ → Bool) → List (List Bool) →
    List (List Bool) → List (List Bool) → Type 0
AreVeryBusy places next mask uses starts ends = HoldOnAll places None next mask uses ends starts
