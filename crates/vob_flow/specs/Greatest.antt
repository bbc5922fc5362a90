-- Sets that have what all of others have, and the greatest such sets. Set n draws from the sets that the
-- edges of node n lead to.
use Rattle.std.specs.Prelude.{◌≡◌, ◌≢◌, ◌↔◌, ◌⊎◌, ◌==◌, ◌&&◌, ℕ, ◌+◌, ◌*◌, ◌<◌, ◌≤◌, Bool, true, false, not, List, [], length, slice_index_or, Option, Some, None, All, Contains}
use Rattle.vob.specs.Vobs.{total_count}
use Rattle.vob_flow.specs.declared.draw.Masks.{Masks}
use Rattle.vob_flow.specs.Draws.{IsIn, HaveShape, mask_of}
use Rattle.vob_flow.specs.Turns.{ArePasses}

-- which places a mask lets through of set n; at an entry none
abbrev pub away : Option ℕ → (ℕ → ℕ → Bool) → ℕ → ℕ → Bool
away None mask n v = mask n v
away (Some entry) mask n v = not (n == entry) && mask n v

abbrev pub mask_from : Option ℕ → Masks → ℕ → ℕ → Bool
mask_from entry masks = away entry (mask_of masks)

-- v is in each of some sets; in each of none is everything
abbrev pub IsInAll : List (List Bool) → List ℕ → ℕ → Type 0
IsInAll sets from v = All (λ m. IsIn sets m v) from

-- v is missing from set n: it doesn't start there, and n's mask drops it, or it is missing from one
-- that n draws from
pub data Misses (next : List (List ℕ)) (mask : ℕ → ℕ → Bool) (starts : List (List Bool))
    : ℕ → ℕ → Type 0 where
  dropped : {n v : ℕ} → ¬ IsIn starts n v → mask n v ≡ false → Misses next mask starts n v
  missed : {n v m : ℕ} → ¬ IsIn starts n v → Contains (slice_index_or next n []) m →
      Misses next mask starts m v → Misses next mask starts n v

-- sets that have what they start with, and of what all that they draw from have what their mask
-- lets through, and nothing else
pub record IsCommonSolution (places : ℕ) (next : List (List ℕ)) (mask : ℕ → ℕ → Bool)
    (starts sets : List (List Bool)) : Type 0 where
  pub shape : HaveShape starts sets
  pub meets : (n v : ℕ) → n < length next → v < places →
      IsIn sets n v
      ↔ (IsIn starts n v ⊎ ((mask n v ≡ true) × IsInAll sets (slice_index_or next n []) v))

-- the solution that lacks what is missing from each set alone
pub record AreGreatest (places : ℕ) (next : List (List ℕ)) (mask : ℕ → ℕ → Bool)
    (starts sets : List (List Bool)) : Type 0 where
  pub solution : IsCommonSolution places next mask starts sets
  pub greatest : (n v : ℕ) → n < length sets → v < places → ¬ IsIn sets n v →
      Misses next mask starts n v

-- sets that have what they start with, and all that their masks let through
pub record HaveMost (places : ℕ) (next : List (List ℕ)) (mask : ℕ → ℕ → Bool)
    (starts sets : List (List Bool)) : Type 0 where
  pub shape : HaveShape starts sets
  pub each : (n v : ℕ) → n < length next → v < places →
      IsIn sets n v ↔ (IsIn starts n v ⊎ (mask n v ≡ true))

-- set n has its turn: it loses what one that it draws from lacks, but for what it starts with, and
-- no other set changes
pub record IsLosingTurn (places : ℕ) (next : List (List ℕ)) (starts : List (List Bool)) (n : ℕ)
    (sets after : List (List Bool)) : Type 0 where
  pub shape : HaveShape sets after
  pub here : (v : ℕ) → n < length next → v < places →
      IsIn after n v
      ↔ (IsIn sets n v × (IsIn starts n v ⊎ IsInAll sets (slice_index_or next n []) v))
  pub others : (k : ℕ) → k ≢ n → slice_index_or after k [] ≡ slice_index_or sets k []

-- so many passes, from the most that each set can have on
pub record AreLosingPasses (places : ℕ) (next : List (List ℕ)) (mask : ℕ → ℕ → Bool)
    (starts sets : List (List Bool)) (passes : ℕ) : Type 0 where
  pub most : List (List Bool)
  pub are_most : HaveMost places next mask starts most
  pub passes_are : ArePasses (IsLosingTurn places next starts) most sets passes

-- how many passes over all sets: none only if there are no sets, and each but the last one found a
-- place that the sets lack
pub record IsPassCount (places : ℕ) (next : List (List ℕ)) (mask : ℕ → ℕ → Bool)
    (starts sets : List (List Bool)) (passes : ℕ) : Type 0 where
  pub most : passes + total_count sets ≤ 1 + length starts * places
  pub no_pass : passes ≡ 0 → starts ≡ []
  pub count : passes ≢ 0 → AreLosingPasses places next mask starts sets passes
