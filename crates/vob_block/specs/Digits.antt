-- A digit for each bit, as codes of characters.
use Rattle.std.specs.Prelude.{◌≡◌, ◌⊎◌, ℕ, Bool, true, false, if◌then◌else◌, List, take, All, Some, slice_get}

-- the digit of a bit, 1 or 0
abbrev pub digit : Bool → ℕ
digit value = if value then 49 else 48

-- a byte is the digit of a bit
abbrev pub IsDigit : ℕ → Type 0
IsDigit byte = (byte ≡ digit false) ⊎ (byte ≡ digit true)

-- the byte at an index isn't, and all before it are
-- Example: of 01x1y: index 2
pub record IsFirstBad (text : List ℕ) (at : ℕ) : Type 0 where
  pub before : All IsDigit (take at text)
  pub byte : ℕ
  pub there : slice_get text at ≡ Some byte
  pub bad : ¬ IsDigit byte
