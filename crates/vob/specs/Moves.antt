-- Lists of bits whose bits move to other indices.
use Rattle.std.specs.Prelude.{◌≡◌, ◌≢◌, ℕ, ◌+◌, ◌-◌, ◌%◌, ◌<◌, ◌≤◌, Bool, false, List, ◌++◌, drop, length, take}
use Rattle.vob_block.specs.Packing.{item}

-- each bit moved up by n indices: false below index n, and nothing past the length
-- Example: 101 by 1: 010
pub record IsMovedUp (n : ℕ) (bits after : List Bool) : Type 0 where
  pub len : length after ≡ length bits
  pub below : (i : ℕ) → i < n → item after i ≡ false
  pub above : (i : ℕ) → n ≤ i → i < length bits → item after i ≡ item bits (i - n)

-- each bit moved down by n indices: false at the end
-- Example: 101 by 1: 010
pub record IsMovedDown (n : ℕ) (bits after : List Bool) : Type 0 where
  pub len : length after ≡ length bits
  pub each : (i : ℕ) → item after i ≡ item bits (i + n)

-- two bits exchanged, and the others as they were
pub record AreSwapped (first second : ℕ) (bits after : List Bool) : Type 0 where
  pub len : length after ≡ length bits
  pub first_bit : item after first ≡ item bits second
  pub second_bit : item after second ≡ item bits first
  pub others : (i : ℕ) → i ≢ first → i ≢ second → item after i ≡ item bits i

-- a bit put in at an index, from which on the others moved up by one
-- Example: 0 at 1 in 11: 101
pub record IsInserted (index : ℕ) (value : Bool) (bits after : List Bool) : Type 0 where
  pub len : length after ≡ length bits + 1
  pub before : (i : ℕ) → i < index → item after i ≡ item bits i
  pub there : item after index ≡ value
  pub behind : (i : ℕ) → index ≤ i → item after (i + 1) ≡ item bits i

-- the bits in reverse order
pub record IsReversed (bits after : List Bool) : Type 0 where
  pub len : length after ≡ length bits
  pub each : (i : ℕ) → i < length bits → item after i ≡ item bits (length bits - 1 - i)

-- the bits from index start to below stop in reverse order, and the others as they stood
pub record IsReversedBetween (start stop : ℕ) (bits after : List Bool) : Type 0 where
  pub len : length after ≡ length bits
  pub inside : (j : ℕ) → j < stop - start → item after (start + j) ≡ item bits (stop - 1 - j)
  pub before : (i : ℕ) → i < start → item after i ≡ item bits i
  pub behind : (i : ℕ) → stop ≤ i → item after i ≡ item bits i

-- the first n bits put after the others, n taken modulo the length
-- Example: 1100 by 1: 1001
abbrev pub rotated : ℕ → List Bool → List Bool
rotated n bits = drop (n % length bits) bits ++ take (n % length bits) bits

-- the last n bits put before the others, n taken modulo the length
-- Example: 1100 by 1: 0110
abbrev pub rotated_back : ℕ → List Bool → List Bool
rotated_back n bits =
    drop (length bits - n % length bits) bits ++ take (length bits - n % length bits) bits

-- each bit comes from n indices above it, and past the end from the front on
pub record IsRotated (n : ℕ) (bits after : List Bool) : Type 0 where
  pub len : length after ≡ length bits
  pub each : (i : ℕ) → i < length bits → item after i ≡ item bits ((i + n) % length bits)
