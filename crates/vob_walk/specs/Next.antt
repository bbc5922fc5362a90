-- The next bit of a value among some blocks, and the previous one.
use Rattle.std.specs.Prelude.{◌≡◌, ◌≢◌, ℕ, ◌+◌, ◌-◌, ◌/◌, ◌<◌, ◌≤◌, Bool, List, map, max, min, slice_index_or}
use Rattle.vob_block.specs.Packing.{need, bit_at}
use Rattle.vob_block.specs.Places.{place}
use Rattle.vob_block.specs.Reading.{Reading}

-- no bit from index a to below index b has the value
abbrev pub HasNoBit : ℕ → List ℕ → Bool → ℕ → ℕ → Type 0
HasNoBit width blocks value a b = (i : ℕ) → a ≤ i → i < b → bit_at blocks width i ≢ value

-- index i is the first one from a to below b whose bit has the value
-- Example: of [237, 2] at 8, unset, from 2: index 4
pub record IsFirstBit (width : ℕ) (blocks : List ℕ) (value : Bool) (a b i : ℕ) : Type 0 where
  pub above : a ≤ i
  pub below : i < b
  pub there : bit_at blocks width i ≡ value
  pub between : HasNoBit width blocks value a i

-- index i is the last one below b whose bit has the value
pub record IsLastBit (width : ℕ) (blocks : List ℕ) (value : Bool) (b i : ℕ) : Type 0 where
  pub below : i < b
  pub there : bit_at blocks width i ≡ value
  pub between : HasNoBit width blocks value (i + 1) b

-- place j of a block is the first one from a on whose bit has the value, or the width
pub record IsFirstPlace (width x : ℕ) (value : Bool) (a j : ℕ) : Type 0 where
  pub above : a ≤ j
  pub within : j ≤ width
  pub there : j < width → place j x ≡ value
  pub between : (i : ℕ) → a ≤ i → i < j → place i x ≢ value

-- j is one more than the last place below b whose bit has the value, or 0
pub record IsLastPlace (x : ℕ) (value : Bool) (b j : ℕ) : Type 0 where
  pub within : j ≤ b
  pub there : 0 < j → place (j - 1) x ≡ value
  pub between : (i : ℕ) → j ≤ i → i < b → place i x ≢ value

-- a search up from index `from`, whose block is in hand, ends at the first index whose bit has the
-- value, with its block, or at `stop`. Each block after the one in hand was read once, up to there
pub record FindsUp {X : Type 0} (width : ℕ) (number : X → ℕ) (value : Bool)
    (before after : Reading X) (from stop at : ℕ) (held : X) : Type 0 where
  pub above : from ≤ at
  pub within : at ≤ stop
  pub there : at < stop → bit_at (map number before.items) width at ≡ value
  pub between : HasNoBit width (map number before.items) value from at
  pub block : at < stop
      → number held ≡ slice_index_or (map number before.items) (at / width) 0
  pub reads : after.reads + (from / width + 1)
      ≡ before.reads + min (at / width + 1) (need stop width)
  pub items : after.items ≡ before.items

-- a search down from index `from`, whose block is in hand, ends one above the last index whose bit
-- has the value, with that index's block, or at `start`. Each block before the one in hand was read
-- once, down to there
pub record FindsBack {X : Type 0} (width : ℕ) (number : X → ℕ) (value : Bool)
    (before after : Reading X) (start from stop : ℕ) (held : X) : Type 0 where
  pub above : start ≤ stop
  pub within : stop ≤ from + 1
  pub there : start < stop → bit_at (map number before.items) width (stop - 1) ≡ value
  pub between : HasNoBit width (map number before.items) value stop (from + 1)
  pub block : start < stop
      → number held ≡ slice_index_or (map number before.items) ((stop - 1) / width) 0
  pub reads : after.reads + max (start / width) ((stop - 1) / width)
      ≡ before.reads + from / width
  pub items : after.items ≡ before.items
