-- What a contract sees of a `Vob`.
use Rattle.std.specs.Prelude.{◌≡◌, ℕ, ◌+◌, ◌-◌, ◌^◌, ◌<◌, ◌≤◌, List, Bool, length}
use Rattle.vob_block.specs.Packing.{need}
use Rattle.vob_block.specs.Pointwise.{pointwise}
use Rattle.vob.specs.Bits.{AreCombined}

-- the bits, index 0 first, and how many bits there is room for without memory
pub record BitVector : Type 0 where
  pub bits : List Bool
  pub capacity : ℕ

-- n bits more are past the greatest length
abbrev pub IsTooLong : BitVector → ℕ → Type 0
IsTooLong vob n = 2 ^ 64 - 1 < length vob.bits + n

-- n bits more fit within the capacity
-- Example: 8 more for 8 bits with capacity 16
abbrev pub HasRoomFor : BitVector → ℕ → Type 0
HasRoomFor vob n = length vob.bits + n ≤ vob.capacity

-- n bits more are past the capacity, and need more blocks
abbrev pub NeedsMemory : ℕ → BitVector → ℕ → Type 0
NeedsMemory width vob n =
    (vob.capacity < length vob.bits + n)
    × (need (length vob.bits) width < need (length vob.bits + n) width)

-- two Vobs of one length, whose bits can be combined
abbrev pub HaveSameLength : BitVector → BitVector → Type 0
HaveSameLength vob other = length vob.bits ≡ length other.bits

-- the bits of two Vobs combined by f, in the room that the first had
-- Example: 1010 and 1100 by "and": 1000
pub record BecomesPointwise (f : Bool → Bool → Bool) (vob other after : BitVector) : Type 0 where
  pub bits : after.bits ≡ pointwise f vob.bits other.bits
  pub each : AreCombined f vob.bits other.bits after.bits
  pub capacity : after.capacity ≡ vob.capacity
