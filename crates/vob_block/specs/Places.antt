-- The places of a block. Place j has the weight 2 ^ j, and a width says how many places there are.
use Rattle.std.specs.Prelude.{◌≡◌, ◌==◌, ℕ, ◌-◌, ◌/◌, ◌%◌, ◌^◌, ◌<◌, ◌≤◌, Bool, true, false, if◌then◌else◌, sum_by, count_by}
use Rattle.std.specs.List.{range_with_len}

-- whether place j of the number x is true
-- Example: places 0 and 2 of 5 are true
abbrev pub place : ℕ → ℕ → Bool
place j x = x / 2 ^ j % 2 == 1

-- the places of x below the width are those of f
-- Example: 5 has those of "even and below 3" at width 8
pub record HasPlaces (width x : ℕ) (f : ℕ → Bool) : Type 0 where
  pub each : (j : ℕ) → j < width → place j x ≡ f j

-- the number that has the places of f below the width, and no other
unfoldable pub value : ℕ → (ℕ → Bool) → ℕ
value width f = sum_by (λ j. if f j then 2 ^ j else 0) (range_with_len 0 width)

-- n places below the first true one are false, the whole width if none is true
-- Example: 12 has 2 at width 8, and 0 has 8
pub record HasZerosLow (width x n : ℕ) : Type 0 where
  pub bound : n ≤ width
  pub zeros : (j : ℕ) → j < n → place j x ≡ false
  pub first : n < width → place n x ≡ true

-- n places above the last true one are false, the whole width if none is true
-- Example: 12 has 4 at width 8, and 0 has 8
pub record HasZerosHigh (width x n : ℕ) : Type 0 where
  pub bound : n ≤ width
  pub zeros : (j : ℕ) → j < n → place (width - 1 - j) x ≡ false
  pub last : n < width → place (width - 1 - n) x ≡ true

-- how many places of x below the width are true
-- Example: of 13 at 8: 3
unfoldable pub true_places : ℕ → ℕ → ℕ
true_places width x = count_by (λ j. place j x) (range_with_len 0 width)
