-- Entries that are built state by state. No public clause cites this page.
use Rattle.std.specs.Prelude.{◌≡◌, ◌↔◌, ℕ, ◌+◌, ◌<◌, ◌≤◌, List, ◌++◌, length, slice_get, slice_index, Contains, Some}
use Rattle.vob_arrays.specs.declared.build.Entry.{Entry}

-- entries are appended: one for each symbol x and action a that P says, and no other
pub record Appends (P : ℕ → ℕ → Type 0) (before after : List Entry) : Type 0 where
  pub row : List Entry
  pub is : after ≡ before ++ row
  pub each : (x a : ℕ) → Contains row (record { symbol = x; action = a }) ↔ P x a

-- one of state q's entries says that action a is done at symbol x
pub record StandsAt (offsets : List ℕ) (entries : List Entry) (q x a : ℕ) : Type 0 where
  pub place : ℕ
  pub from : slice_index offsets q ≤ place
  pub below : place < slice_index offsets (q + 1)
  pub is : slice_get entries place ≡ Some (record { symbol = x; action = a })

-- the entries of the first n states: P q x a says that one of state q's says that action a is done at symbol x
pub record AreBuilt (P : ℕ → ℕ → ℕ → Type 0) (n : ℕ) (offsets : List ℕ) (entries : List Entry)
    : Type 0 where
  pub count : length offsets ≡ n + 1
  pub last : slice_index offsets n ≡ length entries
  pub inside : (k : ℕ) → k < length offsets → slice_index offsets k ≤ length entries
  pub each : (q x a : ℕ) → q < n → StandsAt offsets entries q x a ↔ P q x a
