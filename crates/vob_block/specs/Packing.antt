-- How the bits of a list stand in blocks of a width, and which blocks are the canonical ones.
use Rattle.std.specs.Prelude.{◌≡◌, ℕ, ◌+◌, ◌-◌, ◌*◌, ◌/◌, ◌%◌, ◌^◌, ◌<◌, ◌≤◌, Bool, false, List, length, map, slice_index_or, All}
use Rattle.std.specs.List.{range_with_len}
use Rattle.vob_block.specs.Places.{place, value}

-- bit i of a list, false past its end
-- Example: of 101: true, false, true, false, ..
abbrev pub item : List Bool → ℕ → Bool
item bits i = slice_index_or bits i false

-- how many blocks n bits take: the least m with n ≤ m * width
-- Example: of 0, 8, 9 at 8: 0, 1, 2
unfoldable pub need : ℕ → ℕ → ℕ
need n width = (n + (width - 1)) / width

-- the blocks of a list: bit i stands in block i / width, at place i % width
-- Example: 101 at 8 is [5]
unfoldable pub packing : List Bool → ℕ → List ℕ
packing bits width =
    map (λ k. value width (λ j. item bits (k * width + j)))
    (range_with_len 0 (need (length bits) width))

-- bit i of some blocks, false where there is no such block
-- Example: bit 8 of [255, 1] at 8 is true
unfoldable pub bit_at : List ℕ → ℕ → ℕ → Bool
bit_at blocks width i = place (i % width) (slice_index_or blocks (i / width) 0)

-- the bits that some blocks hold, the first n of them
-- Example: 3 bits of [5] at 8 are 101
unfoldable pub unpacking : ℕ → List ℕ → ℕ → List Bool
unpacking n blocks width = map (bit_at blocks width) (range_with_len 0 n)

-- n bits stored the one way that each list of n bits has: as many blocks as they need, each within
-- the width, and false wherever there is no bit
-- Example: 9 bits in [255, 1]; not in [255, 2]
pub record IsCanonical (n : ℕ) (blocks : List ℕ) (width : ℕ) : Type 0 where
  pub count : length blocks ≡ need n width
  pub within : All (λ x. x < 2 ^ width) blocks
  pub unused : (i : ℕ) → n ≤ i → bit_at blocks width i ≡ false

-- these blocks are the one way to store this list of n bits
pub record Stores (width n : ℕ) (blocks : List ℕ) (list : List Bool) : Type 0 where
  pub canonical : IsCanonical n blocks width
  pub bits : unpacking n blocks width ≡ list
