-- What the number of blocks and the packing of a list obey, and blocks and bytes of some of its bits.
use Rattle.std.specs.Prelude.{◌≡◌, ◌↔◌, ℕ, ◌+◌, ◌-◌, ◌*◌, ◌%◌, ◌^◌, ◌<◌, ◌≤◌, Bool, false, List, []}
use Rattle.std.specs.Prelude.{◌∷◌, ◌++◌, drop, length, replicate, take}
use Rattle.vob_block.specs.Packing.{item, need, packing, unpacking, IsCanonical}
use Rattle.vob_block.specs.Places.{HasPlaces}
use Rattle.vob.specs.Copy.{written_over}

-- the blocks that n bits need hold them, and no fewer blocks do
abbrev pub NeedIsLeast : Type 0
NeedIsLeast =
    (width n : ℕ) → 0 < width
    → (n ≤ need n width * width) × ((m : ℕ) → n ≤ m * width → need n width ≤ m)

-- storage of n bits is canonical exactly if its blocks are as many as the bits need, and are the
-- packing of the bits that they hold
abbrev pub CanonicalIsPacked : Type 0
CanonicalIsPacked =
    (width n : ℕ) (blocks : List ℕ) → 0 < width
    → IsCanonical n blocks width
    ↔ ((length blocks ≡ need n width) × (blocks ≡ packing (unpacking n blocks width) width))

-- n bits of a block written over a range are read back as that block's remainder by 2 ^ n
abbrev pub LoadGivesStored : Type 0
LoadGivesStored =
    (width : ℕ) (bits : List Bool) (start stop word loaded : ℕ) → start ≤ stop → stop ≤ length bits
    → stop ≤ start + width → loaded < 2 ^ width
    → HasPlaces width loaded (item (take (stop - start) (drop start (written_over start
    (unpacking (stop - start) (word ∷ []) width) bits)))) → loaded ≡ word % 2 ^ (stop - start)

-- the bytes of a list hold its bits, and fewer than eight unset ones behind them
abbrev pub LowBytesGiveBits : Type 0
LowBytesGiveBits =
    (bits : List Bool) → let bytes = packing bits 8 in let rest = 8 * length bytes - length bits in
    (unpacking (8 * length bytes) bytes 8 ≡ bits ++ replicate rest false) × (rest < 8)
