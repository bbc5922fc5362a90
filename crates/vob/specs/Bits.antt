-- What calls in place do to a list of bits, index by index.
use Rattle.std.specs.Prelude.{◌≡◌, ◌≢◌, ℕ, ◌+◌, ◌<◌, Bool, true, false, if◌then◌else◌, List, length, count_by}
use Rattle.vob_block.specs.Packing.{item}
use Rattle.vob_walk.specs.Matches.{has_value}

-- how many bits of a list have a value
-- Example: count_of false of 101 is 1
abbrev pub count_of : Bool → List Bool → ℕ
count_of value bits = count_by (has_value value) bits

-- 1 for a bit that has the value, and 0 for another
abbrev pub one_of : Bool → Bool → ℕ
one_of value bit = if has_value value bit then 1 else 0

-- a list whose bit at an index was made a value
-- Example: 101 with bit 1 true: 111
pub record IsWritten (bits : List Bool) (index : ℕ) (value : Bool) (after : List Bool) : Type 0 where
  pub len : length after ≡ length bits
  pub there : item after index ≡ value
  pub others : (i : ℕ) → i ≢ index → item after i ≡ item bits i
  pub count : (v : Bool) → count_of v after + one_of v (item bits index) ≡ count_of v bits + one_of v value

-- a list with each bit changed by f
-- Example: by "not", 101 becomes 010
pub record IsChanged (f : Bool → Bool) (bits after : List Bool) : Type 0 where
  pub len : length after ≡ length bits
  pub each : (i : ℕ) → i < length bits → item after i ≡ f (item bits i)

-- two lists of one length combined by f
-- Example: 1010 and 1100 by "and": 1000
pub record AreCombined (f : Bool → Bool → Bool) (bits others after : List Bool) : Type 0 where
  pub len : length after ≡ length bits
  pub each : (i : ℕ) → item after i ≡ f (item bits i) (item others i)

-- a list that has fewer true bits where it changed
-- Example: "and" of 100 with 110 loses none
pub record LosesBits (changed : Bool) (bits after : List Bool) : Type 0 where
  pub same : changed ≡ false → after ≡ bits
  pub fewer : changed ≡ true → count_of true after < count_of true bits

-- a list that has more true bits where it changed
pub record GainsBits (changed : Bool) (bits after : List Bool) : Type 0 where
  pub same : changed ≡ false → after ≡ bits
  pub more : changed ≡ true → count_of true bits < count_of true after
