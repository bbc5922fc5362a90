-- Blocks of which the bits of a range are changed. No public contract cites this page.
use Rattle.std.specs.Prelude.{◌≡◌, ℕ, ◌^◌, ◌<◌, ◌≤◌, Bool, List, length, All}
use Rattle.vob_block.specs.Packing.{bit_at}

-- the bits from index start to below stop are changed by f, and the others are as they were
pub record IsRanged (width : ℕ) (f : Bool → Bool) (start stop : ℕ) (blocks after : List ℕ)
    : Type 0 where
  pub count : length after ≡ length blocks
  pub within : All (λ x. x < 2 ^ width) blocks → All (λ x. x < 2 ^ width) after
  pub below : (i : ℕ) → i < start → bit_at after width i ≡ bit_at blocks width i
  pub inside : (i : ℕ) → start ≤ i → i < stop → bit_at after width i ≡ f (bit_at blocks width i)
  pub above : (i : ℕ) → stop ≤ i → bit_at after width i ≡ bit_at blocks width i

-- each bit is as it was
abbrev pub HaveSameBits : ℕ → List ℕ → List ℕ → Type 0
HaveSameBits width blocks after = (i : ℕ) → bit_at after width i ≡ bit_at blocks width i
