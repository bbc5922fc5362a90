-- Bits of some blocks in reverse order. No public contract cites this page.
use Rattle.std.specs.Prelude.{◌≡◌, ℕ, ◌+◌, ◌-◌, ◌^◌, ◌<◌, ◌≤◌, List}
use Rattle.vob_block.specs.Packing.{bit_at}

-- a block has 2 ^ n places for some n, so that it can be halved down to single places
abbrev pub IsHalvable : ℕ → Type 0
IsHalvable width = (n : ℕ) × (width ≡ 2 ^ n)

-- the first bits from an index on and the last ones below another are exchanged, each in reverse
-- order, and the others are as they were
pub record AreExchanged (width start stop count : ℕ) (blocks after : List ℕ) : Type 0 where
  pub front : (j : ℕ) → j < count
      → bit_at after width (start + j) ≡ bit_at blocks width (stop - 1 - j)
  pub back : (j : ℕ) → j < count
      → bit_at after width (stop - 1 - j) ≡ bit_at blocks width (start + j)
  pub before : (i : ℕ) → i < start → bit_at after width i ≡ bit_at blocks width i
  pub between : (i : ℕ) → start + count ≤ i → i < stop - count
      → bit_at after width i ≡ bit_at blocks width i
  pub behind : (i : ℕ) → stop ≤ i → bit_at after width i ≡ bit_at blocks width i

-- the bits from index start to below stop stand in reverse order, and the others as they stood
pub record AreReversed (width start stop : ℕ) (blocks after : List ℕ) : Type 0 where
  pub inside : (j : ℕ) → j < stop - start
      → bit_at after width (start + j) ≡ bit_at blocks width (stop - 1 - j)
  pub before : (i : ℕ) → i < start → bit_at after width i ≡ bit_at blocks width i
  pub behind : (i : ℕ) → stop ≤ i → bit_at after width i ≡ bit_at blocks width i
