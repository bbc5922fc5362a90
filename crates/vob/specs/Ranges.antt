-- What calls do to the bits of a range.
use Rattle.std.specs.Prelude.{◌≡◌, ℕ, ◌<◌, Bool, false, IsTrue, List, ◌++◌, length, take, drop}
use Rattle.std.specs.declared.ops.Bound.{Bound}
use Rattle.vob_block.specs.Packing.{item}
use Rattle.vob_walk.specs.Matches.{within}

-- a list whose bits within a range are changed by f, and whose others are as they were
-- Example: "not" from 1 below 3: 1011 becomes 1101
pub record IsChangedWithin (f : Bool → Bool) (low high : Bound ℕ) (bits after : List Bool)
    : Type 0 where
  pub len : length after ≡ length bits
  pub inside : (i : ℕ) → i < length bits → IsTrue (within low high i)
      → item after i ≡ f (item bits i)
  pub outside : (i : ℕ) → within low high i ≡ false → item after i ≡ item bits i

-- a list with others in place of the bits from one index to below another
-- Example: 1011 from 1 below 3 with 0: 101
abbrev pub replaced : ℕ → ℕ → List Bool → List Bool → List Bool
replaced start stop others bits = take start bits ++ (others ++ drop stop bits)
