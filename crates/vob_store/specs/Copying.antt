-- Bits of some blocks written over those of others. No public contract cites this page.
use Rattle.std.specs.Prelude.{◌≡◌, ℕ, ◌+◌, ◌<◌, ◌≤◌, List}
use Rattle.vob_block.specs.Packing.{bit_at}

-- as many bits of others from one index on stand in place of those from another on, and each bit
-- before and after is as it was
pub record AreCopied (width at start count : ℕ) (blocks others after : List ℕ) : Type 0 where
  pub copied : (j : ℕ) → j < count → bit_at after width (at + j) ≡ bit_at others width (start + j)
  pub before : (i : ℕ) → i < at → bit_at after width i ≡ bit_at blocks width i
  pub behind : (i : ℕ) → at + count ≤ i → bit_at after width i ≡ bit_at blocks width i
