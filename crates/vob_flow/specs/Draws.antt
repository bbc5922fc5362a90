-- Sets that draw from one another, and the least such sets. Set n draws from the sets that the edges of
-- node n of a graph lead to, what its mask lets through.
use Rattle.std.specs.Prelude.{◌≡◌, ◌≢◌, ◌↔◌, ◌⊎◌, ℕ, ◌+◌, ◌≤◌, Bool, true, not, List, [], length, slice_index_or, Any, Contains}
use Rattle.vob_block.specs.Packing.{item}
use Rattle.vob.specs.Vobs.{total_count}
use Rattle.vob_rows.specs.Rows.{row_of}
use Rattle.vob_flow.specs.declared.draw.Masks.{Masks}
use Rattle.vob_flow.specs.declared.draw.Masks.TheVariants.{All as Everything, Keep, Without}
use Rattle.vob_flow.specs.Turns.{ArePasses}

-- which places the mask of set n lets through
abbrev pub mask_of : Masks → ℕ → ℕ → Bool
mask_of Everything n v = true
mask_of (Keep masks) n v = item (row_of masks.now.rows n) v
mask_of (Without masks) n v = not (item (row_of masks.now.rows n) v)

-- a mask for each set, with a bit for each of the places
abbrev pub FitMasks : ℕ → ℕ → Masks → Type 0
FitMasks count places Everything = Unit {0}
FitMasks count places (Keep masks) =
    (length masks.now.rows ≡ count) × (masks.now.columns ≡ places)
FitMasks count places (Without masks) =
    (length masks.now.rows ≡ count) × (masks.now.columns ≡ places)

-- place v is in set n
abbrev pub IsIn : List (List Bool) → ℕ → ℕ → Type 0
IsIn sets n v = item (slice_index_or sets n []) v ≡ true

-- what is in the first sets is in the second
abbrev pub AreWithin : List (List Bool) → List (List Bool) → Type 0
AreWithin sets others = (n v : ℕ) → IsIn sets n v → IsIn others n v

-- v is in one of some sets
abbrev pub IsInSome : List (List Bool) → List ℕ → ℕ → Type 0
IsInSome sets from v = Any (λ m. IsIn sets m v) from

-- set n draws v: its mask lets v through, which is in a set that an edge leads to
abbrev pub IsDrawn : List (List ℕ) → (ℕ → ℕ → Bool) → List (List Bool) → ℕ → ℕ → Type 0
IsDrawn next mask sets n v = (mask n v ≡ true) × IsInSome sets (slice_index_or next n []) v

-- v comes to set n: it starts there, or comes to a set from which n draws it
pub data Comes (next : List (List ℕ)) (mask : ℕ → ℕ → Bool) (starts : List (List Bool))
    : ℕ → ℕ → Type 0 where
  starts_in : {n v : ℕ} → IsIn starts n v → Comes next mask starts n v
  drawn : {n v m : ℕ} → mask n v ≡ true → Contains (slice_index_or next n []) m →
      Comes next mask starts m v → Comes next mask starts n v

-- sets as many and as long as others
pub record HaveShape (starts sets : List (List Bool)) : Type 0 where
  pub count : length sets ≡ length starts
  pub long : (n : ℕ) → length (slice_index_or sets n []) ≡ length (slice_index_or starts n [])

-- sets that have what they start with, and what they draw, and nothing else
pub record IsSolution (next : List (List ℕ)) (mask : ℕ → ℕ → Bool) (starts sets : List (List Bool))
    : Type 0 where
  pub shape : HaveShape starts sets
  pub meets : (n v : ℕ) → IsIn sets n v ↔ (IsIn starts n v ⊎ IsDrawn next mask sets n v)

-- the solution that has what comes to each set alone
pub record AreLeast (next : List (List ℕ)) (mask : ℕ → ℕ → Bool) (starts sets : List (List Bool))
    : Type 0 where
  pub solution : IsSolution next mask starts sets
  pub least : (n v : ℕ) → IsIn sets n v → Comes next mask starts n v

-- set n has its turn: it gets what it draws from the sets as they are, and no other set changes
pub record IsTurn (next : List (List ℕ)) (mask : ℕ → ℕ → Bool) (n : ℕ) (sets after : List (List Bool))
    : Type 0 where
  pub shape : HaveShape sets after
  pub here : (v : ℕ) → IsIn after n v ↔ (IsIn sets n v ⊎ IsDrawn next mask sets n v)
  pub others : (k : ℕ) → k ≢ n → slice_index_or after k [] ≡ slice_index_or sets k []

-- how many passes over all sets added what they have more: none only if there are no sets, one only
-- if nothing was added, and each but the last one added something
pub record TakePasses (next : List (List ℕ)) (mask : ℕ → ℕ → Bool) (starts sets : List (List Bool))
    (passes : ℕ) : Type 0 where
  pub most : passes + total_count starts ≤ 1 + total_count sets
  pub no_pass : passes ≡ 0 → starts ≡ []
  pub one_pass : passes ≡ 1 → sets ≡ starts
  pub count : passes ≢ 0 → ArePasses (IsTurn next mask) starts sets passes
