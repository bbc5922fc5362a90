-- The items of some sets, numbered set by set. No public clause cites this page but for node.
use Rattle.std.specs.Prelude.{◌≡◌, ◌==◌, ℕ, ◌+◌, ◌<◌, ◌≤◌, List, [], length, take, sum_by, slice_index_or, All, AllPairs}
use Rattle.std.specs.List.{position_or_len}

-- how many members the first n sets have, and how many all have
abbrev pub members_of : List (List ℕ) → ℕ → ℕ
members_of sets n = sum_by length (take n sets)

abbrev pub member_total : List (List ℕ) → ℕ
member_total sets = sum_by length sets

-- where a number stands in a list: behind all if it isn't there
abbrev pub place_of : List ℕ → ℕ → ℕ
place_of list n = position_or_len (λ m. m == n) list

-- the number of item i of set q: as many as the members before it
abbrev pub node : List (List ℕ) → ℕ → ℕ → ℕ
node sets q i = members_of sets q + place_of (slice_index_or sets q []) i

-- sets whose items rise
abbrev pub AreRising : List (List ℕ) → Type 0
AreRising sets = All (λ set. AllPairs (λ i j. i < j) set) sets

-- how many members the sets before each have, up to set n
pub record AreOffsets (sets : List (List ℕ)) (n : ℕ) (offsets : List ℕ) : Type 0 where
  pub total : length offsets ≡ n + 1
  pub each : (q d : ℕ) → q ≤ n → slice_index_or offsets q d ≡ members_of sets q
