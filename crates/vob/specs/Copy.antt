-- Bits of one list written over those of another.
use Rattle.std.specs.Prelude.{◌≡◌, ◌⊎◌, ℕ, ◌+◌, ◌<◌, ◌≤◌, Bool, List, length}
use Rattle.std.specs.declared.ops.Bound.{Bound}
use Rattle.std.specs.declared.ops.Bound.TheVariants.{Included, Excluded, Unbounded}
use Rattle.vob_block.specs.Packing.{item}
use Rattle.vob.specs.Drain.{bits_within}
use Rattle.vob.specs.Ranges.{replaced}

-- the index that a range begins at
abbrev pub start_of : Bound ℕ → ℕ
start_of (Included a) = a
start_of (Excluded a) = a + 1
start_of Unbounded = 0

-- a list with others in place of as many bits from an index on
-- Example: 11 over 0000 at 1: 0110
abbrev pub written_over : ℕ → List Bool → List Bool → List Bool
written_over at others bits = replaced at (at + length others) others bits

-- as many bits of others from one index on stand in place of those from another on, and each bit
-- before and after is as it was
pub record IsCopied (at start count : ℕ) (bits others after : List Bool) : Type 0 where
  pub len : length after ≡ length bits
  pub copied : (j : ℕ) → j < count → item after (at + j) ≡ item others (start + j)
  pub before : (i : ℕ) → i < at → item after i ≡ item bits i
  pub behind : (i : ℕ) → at + count ≤ i → item after i ≡ item bits i

-- what a range holds of others fits in place of as many bits from an index on
abbrev pub FitsFrom : ℕ → Bound ℕ → Bound ℕ → List Bool → List Bool → Type 0
FitsFrom at low high others bits = at + length (bits_within low high others) ≤ length bits

-- and so does a range's share; all of others, if the range's bounds aren't known
abbrev pub FitsRange : Type 0 → ℕ → Bound ℕ → Bound ℕ → List Bool → List Bool → Type 0
FitsRange known at low high others bits =
    (known × FitsFrom at low high others bits) ⊎ (at + length others ≤ length bits)

-- what a range holds of others stands there, and each other bit is as it was
-- Example: bits below 2 of 110 over 0000 at 1: 0110
abbrev pub IsRangeCopied : ℕ → Bound ℕ → Bound ℕ → List Bool → List Bool → List Bool → Type 0
IsRangeCopied at low high bits others after =
    IsCopied at (start_of low) (length (bits_within low high others)) bits others after
