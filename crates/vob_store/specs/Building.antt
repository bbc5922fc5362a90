-- Blocks stored one by one so that they hold wanted bits. No public contract cites this page.
use Rattle.std.specs.Prelude.{◌≡◌, ℕ, ◌-◌, ◌/◌, ◌<◌, Bool, if◌then◌else◌, nat_lt, List}
use Rattle.vob_block.specs.Packing.{bit_at}

-- the first k blocks hold the wanted bits
pub record AreBuilt (width k : ℕ) (blocks : List ℕ) (wanted : ℕ → Bool) : Type 0 where
  pub each : (i : ℕ) → i / width < k → bit_at blocks width i ≡ wanted i

-- bit i where the bits of others stand after the first n of some blocks
abbrev pub joined_bit : ℕ → ℕ → List ℕ → List ℕ → ℕ → Bool
joined_bit width n blocks others i =
    if nat_lt i n then bit_at blocks width i else bit_at others width (i - n)
