-- Bits in bytes, with the least or the most significant bit of a byte first.
use Rattle.std.specs.Prelude.{ℕ, ◌-◌, ◌/◌, ◌%◌, Bool, if◌then◌else◌, List, map, slice_index_or}
use Rattle.std.specs.List.{range_with_len}
use Rattle.vob_block.specs.Places.{place}

-- bit i of some bytes, false past their end
-- Example: bit 0 of byte 1, the least significant bit first: true
abbrev pub byte_bit : Bool → List ℕ → ℕ → Bool
byte_bit most_first bytes i =
    place (if most_first then 7 - i % 8 else i % 8) (slice_index_or bytes (i / 8) 0)

-- the first n bits of some bytes
-- Example: 3 bits of byte 1, the least significant bit first: 100
abbrev pub bits_of_bytes : Bool → ℕ → List ℕ → List Bool
bits_of_bytes most_first n bytes = map (byte_bit most_first bytes) (range_with_len 0 n)
