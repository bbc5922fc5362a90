-- Bits with two summaries: a bit for each word of 64 says whether each of its bits is set.
use Rattle.std.specs.Prelude.{◌≡◌, ◌↔◌, ◌⊎◌, ℕ, ◌+◌, ◌/◌, ◌<◌, ◌≤◌, Bool, true, List, length}
use Rattle.vob_block.specs.Packing.{item}

-- how many words so many bits need
abbrev pub words : ℕ → ℕ
words n = (n + 63) / 64

-- each bit of word w is set. A last word may have fewer than 64
abbrev pub IsFull : List Bool → ℕ → Type 0
IsFull bits w = (i : ℕ) → i < length bits → i / 64 ≡ w → item bits i ≡ true

-- a bit for each word, which says whether it is full, but for words `from` to below `to`
pub record IsSummaryBut (from to : ℕ) (bits full : List Bool) : Type 0 where
  pub long : length full ≡ words (length bits)
  pub each : (w : ℕ) → w < length full → (w < from) ⊎ (to ≤ w) → (item full w ≡ true) ↔ IsFull bits w

-- a bit for each word, which says whether it is full
abbrev pub IsSummary : List Bool → List Bool → Type 0
IsSummary bits full = IsSummaryBut 0 0 bits full

-- the bits that are looked at, and how many blocks were read
pub record Seen : Type 0 where
  pub bits : List Bool
  pub reads : ℕ
