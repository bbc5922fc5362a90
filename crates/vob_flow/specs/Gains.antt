-- A set that gains places from others. No public clause cites this page.
use Rattle.std.specs.Prelude.{◌≡◌, ◌≢◌, ◌↔◌, ◌⊎◌, ℕ, ◌<◌, Bool, true, false, List, [], length, slice_index_or, Contains}
use Rattle.vob_block.specs.Packing.{item}
use Rattle.vob.specs.Vobs.{total_count}
use Rattle.vob_flow.specs.Draws.{HaveShape, IsDrawn, IsIn, IsInSome}
use Rattle.vob_flow.specs.Schedules.{place_of}

-- a mask lets v through of set m
abbrev pub IsLetThrough : List (List Bool) → (ℕ → Bool) → ℕ → ℕ → Type 0
IsLetThrough sets mask m v = (mask v ≡ true) × IsIn sets m v

-- set n got the places that P holds of, and no other set changed
pub record HasGained (sets : List (List Bool)) (n : ℕ) (P : ℕ → Type 0) (after : List (List Bool))
    (grew : Bool) : Type 0 where
  pub shape : HaveShape sets after
  pub here : (v : ℕ) → IsIn after n v ↔ (IsIn sets n v ⊎ P v)
  pub others : (k : ℕ) → k ≢ n → slice_index_or after k [] ≡ slice_index_or sets k []
  pub same : grew ≡ false → after ≡ sets
  pub more : grew ≡ true → total_count sets < total_count after

-- a mask lets v through, which is in one of some sets
abbrev pub IsDrawnOf : List (List Bool) → (ℕ → Bool) → List ℕ → ℕ → Type 0
IsDrawnOf sets mask from v = (mask v ≡ true) × IsInSome sets from v

-- the set at a place was looked at: it got what it draws and waits no more, and if that was more,
-- those that draw from it wait
pub record HadLook (next : List (List ℕ)) (mask : ℕ → ℕ → Bool) (order places : List ℕ)
    (sets : List (List Bool)) (pending : List Bool) (at : ℕ) (after : List (List Bool))
    (pending' : List Bool) (grew : Bool) : Type 0 where
  pub drawn : HasGained sets (slice_index_or order at 0)
      (IsDrawn next mask sets (slice_index_or order at 0)) after grew
  pub len : length pending' ≡ length pending
  pub kept : (p : ℕ) → p ≢ at → item pending p ≡ true → item pending' p ≡ true
  pub users : grew ≡ true → (k : ℕ) → Contains (slice_index_or next k []) (slice_index_or order at 0)
      → item pending' (place_of places k) ≡ true
  pub quiet : grew ≡ false → (p : ℕ) → item pending' p ≡ true → (p ≢ at) × (item pending p ≡ true)
