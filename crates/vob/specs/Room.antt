-- Stretches of unset bits, and where there is room for some.
use Rattle.std.specs.Prelude.{◌≡◌, ℕ, ◌+◌, ◌<◌, ◌≤◌, Bool, true, false, List, length}
use Rattle.vob_block.specs.Packing.{item}

-- the bits from index a to below b are unset, and the ones beside them are set or are not there
pub record IsUnsetRun (bits : List Bool) (a b : ℕ) : Type 0 where
  pub some : a < b
  pub inside : b ≤ length bits
  pub unset : (i : ℕ) → a ≤ i → i < b → item bits i ≡ false
  pub before : (i : ℕ) → i + 1 ≡ a → item bits i ≡ true
  pub behind : b < length bits → item bits b ≡ true

-- n unset bits in a row stand from index i on, within the length
-- Example: 2 in 0100: from index 2 on
pub record IsRoom (n : ℕ) (bits : List Bool) (i : ℕ) : Type 0 where
  pub inside : i + n ≤ length bits
  pub unset : (j : ℕ) → i ≤ j → j < i + n → item bits j ≡ false

-- and from no lower index on
pub record IsFirstRoom (n : ℕ) (bits : List Bool) (i : ℕ) : Type 0 where
  pub there : IsRoom n bits i
  pub least : (j : ℕ) → IsRoom n bits j → i ≤ j

-- nowhere do n unset bits stand in a row
pub record HasNoRoom (n : ℕ) (bits : List Bool) : Type 0 where
  pub none : (i : ℕ) → IsRoom n bits i → ⊥
