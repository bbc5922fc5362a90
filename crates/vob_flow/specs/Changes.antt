-- Sets that are changed one after another. No public clause cites this page.
use Rattle.std.specs.Prelude.{◌≡◌, ◌≢◌, ◌↔◌, ◌⊎◌, ℕ, ◌<◌, ◌≤◌, Bool, false, List, [], length, slice_index_or}
use Rattle.vob_block.specs.Packing.{item}
use Rattle.vob_flow.specs.Draws.{HaveShape, IsIn}

-- set n got the places that P holds of, and no other set changed
pub record Gets (sets : List (List Bool)) (n : ℕ) (P : ℕ → Type 0) (after : List (List Bool))
    : Type 0 where
  pub shape : HaveShape sets after
  pub here : (v : ℕ) → IsIn after n v ↔ (IsIn sets n v ⊎ P v)
  pub others : (k : ℕ) → k ≢ n → slice_index_or after k [] ≡ slice_index_or sets k []

-- each of the first k sets did, and the others are as they were
pub record EachGets (sets : List (List Bool)) (P : ℕ → ℕ → Type 0) (after : List (List Bool)) (k : ℕ)
    : Type 0 where
  pub shape : HaveShape sets after
  pub below : (n v : ℕ) → n < k → IsIn after n v ↔ (IsIn sets n v ⊎ P n v)
  pub above : (n : ℕ) → k ≤ n → slice_index_or after n [] ≡ slice_index_or sets n []

-- set n became the places that P holds of, and no other set changed
pub record Becomes (sets : List (List Bool)) (n : ℕ) (P : ℕ → Type 0) (after : List (List Bool))
    : Type 0 where
  pub shape : HaveShape sets after
  pub here : (v : ℕ) → v < length (slice_index_or sets n []) → IsIn after n v ↔ P v
  pub others : (k : ℕ) → k ≢ n → slice_index_or after k [] ≡ slice_index_or sets k []

-- each of the first k sets did, and the others are as they were
pub record EachBecomes (sets : List (List Bool)) (P : ℕ → ℕ → Type 0) (after : List (List Bool)) (k : ℕ)
    : Type 0 where
  pub shape : HaveShape sets after
  pub below : (n v : ℕ) → n < k → v < length (slice_index_or sets n []) → IsIn after n v ↔ P n v
  pub above : (n : ℕ) → k ≤ n → slice_index_or after n [] ≡ slice_index_or sets n []

-- what set n lacks at first: what it doesn't start with, and its mask doesn't let through
abbrev pub IsLacking : (ℕ → ℕ → Bool) → List (List Bool) → ℕ → ℕ → Type 0
IsLacking mask sets n v = (item (slice_index_or sets n []) v ≡ false) × (mask n v ≡ false)

-- what isn't in set n
abbrev pub IsOut : List (List Bool) → ℕ → ℕ → Type 0
IsOut sets n v = item (slice_index_or sets n []) v ≡ false
