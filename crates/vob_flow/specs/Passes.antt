-- What the passes over sets that draw from one another keep. No public clause cites this page.
use Rattle.std.specs.Prelude.{◌≡◌, ◌⊎◌, ℕ, ◌<◌, ◌≤◌, Bool, true, false, List, [], length, slice_index_or, Contains}
use Rattle.vob_block.specs.Packing.{item}
use Rattle.vob.specs.Vobs.{total_count}
use Rattle.vob_flow.specs.Draws.{IsIn, Comes, HaveShape, IsTurn}
use Rattle.vob_flow.specs.Gains.{IsLetThrough}
use Rattle.vob_flow.specs.Turns.{TakeTurns}

-- set k has all that a mask lets through of set m
abbrev pub HasAllOf : List (List Bool) → ℕ → (ℕ → Bool) → ℕ → Type 0
HasAllOf sets k mask m = (v : ℕ) → IsLetThrough sets mask m v → IsIn sets k v

-- sets on the way to the least ones: each has what it draws, or waits for a look at its place
pub record AreUnderway (place : ℕ → ℕ) (next : List (List ℕ)) (mask : ℕ → ℕ → Bool)
    (starts sets : List (List Bool)) (pending : List Bool) : Type 0 where
  pub shape : HaveShape starts sets
  pub kept : (n v : ℕ) → IsIn starts n v → IsIn sets n v
  pub comes : (n v : ℕ) → IsIn sets n v → Comes next mask starts n v
  pub waits : (k m : ℕ) → Contains (slice_index_or next k []) m →
      HasAllOf sets k (mask k) m ⊎ (item pending (place k) ≡ true)

-- sets of the same shape with as many places or more
pub record AreMore (sets after : List (List Bool)) : Type 0 where
  pub shape : HaveShape sets after
  pub total : total_count sets ≤ total_count after

-- the sets at the first i places had their turn, and some grew or none
pub record HadTurns (place : ℕ → ℕ) (order : List ℕ) (next : List (List ℕ)) (mask : ℕ → ℕ → Bool)
    (sets : List (List Bool)) (pending : List Bool) (after : List (List Bool)) (pending' : List Bool)
    (grew : Bool) (i : ℕ) : Type 0 where
  pub sets_more : AreMore sets after
  pub len : length pending' ≡ length pending
  pub underway : (starts : List (List Bool)) → AreUnderway place next mask starts sets pending →
      AreUnderway place next mask starts after pending'
  pub turns : (starts : List (List Bool)) → AreUnderway place next mask starts sets pending →
      TakeTurns (IsTurn next mask) order sets i after
  pub more : grew ≡ true → total_count sets < total_count after
  pub same : grew ≡ false → after ≡ sets
  pub quiet : grew ≡ false → (p : ℕ) → p < i → item pending' p ≡ false
