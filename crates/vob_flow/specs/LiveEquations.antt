-- The flow equations of live variables, and the sets that solve them.
use Rattle.std.specs.Prelude.{◌≡◌, ℕ, ◌⊎◌, ◌↔◌, Bool, true, List, [], length, slice_index_or, slice_get, Some, Any, Contains}
use Rattle.vob_block.specs.Packing.{item}
use Rattle.vob.specs.Vobs.{AreOfLength}
use Rattle.vob_flow.specs.Draws.{AreWithin}
use Rattle.vob_flow.specs.declared.live.Flow.{Flow}

-- a set for each of some nodes, and in each set a bit for each variable
pub record AreSets (vars nodes : ℕ) (sets : List (List Bool)) : Type 0 where
  pub count : length sets ≡ nodes
  pub long : AreOfLength vars sets

-- whether variable v is in the set of node n
abbrev pub IsLive : List (List Bool) → ℕ → ℕ → Type 0
IsLive sets n v = item (slice_index_or sets n []) v ≡ true

-- live before some node that comes next
abbrev pub IsLiveNext : List (List Bool) → Flow → ℕ → Type 0
IsLiveNext before flow v = Any (λ m. IsLive before m v) flow.next.items

-- read by a node, or live after it and not written by it
abbrev pub IsLiveHere : List (List Bool) → Flow → ℕ → ℕ → Type 0
IsLiveHere after flow n v =
    Contains flow.reads.items v ⊎ (IsLive after n v × ¬ Contains flow.writes.items v)

-- sets that meet both flow equations at every node
pub record IsSolution (vars : ℕ) (nodes : List Flow) (before after : List (List Bool))
    : Type 0 where
  pub before_sets : AreSets vars (length nodes) before
  pub after_sets : AreSets vars (length nodes) after
  pub before_is : (n : ℕ) (flow : Flow) → slice_get nodes n ≡ Some flow →
      (v : ℕ) → IsLive before n v ↔ IsLiveHere after flow n v
  pub after_is : (n : ℕ) (flow : Flow) → slice_get nodes n ≡ Some flow →
      (v : ℕ) → IsLive after n v ↔ IsLiveNext before flow v

-- sets that are within those of every solution
abbrev pub AreLeastLive : ℕ → List Flow → List (List Bool) → List (List Bool) → Type 0
AreLeastLive vars nodes before after = (others others_after : List (List Bool)) →
    IsSolution vars nodes others others_after →
    AreWithin before others × AreWithin after others_after
