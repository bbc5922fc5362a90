-- Where a walk over runs stands, and the bits that it sees.
use Rattle.std.specs.Prelude.{◌≡◌, ◌≢◌, ◌==◌, if◌then◌else◌, ℕ, ◌+◌, ◌-◌, ◌/◌, ◌<◌, ◌≤◌, Bool, true}
use Rattle.std.specs.Prelude.{IsTrue, false, List, ◌++◌, length, slice_index_or, drop, map, replicate}
use Rattle.vob_block.specs.Packing.{item, need}
use Rattle.vob_walk.specs.Matches.{has_value}

-- the bits from an index on: set where they have the value. Below that index each is unset
abbrev pub seen : Bool → ℕ → List Bool → List Bool
seen value first bits = replicate first false ++ map (has_value value) (drop first bits)

-- how many blocks of the first n bits are unread where the block of index `from` was read last, and
-- none where that is 0
abbrev pub unread_from : ℕ → ℕ → ℕ → ℕ
unread_from width n from = need n width - (if from == 0 then 0 else from / width + 1)

-- a walk within, over bits seen from index `first` on: no set one stands from index `at` to below
-- index `from`, whose block is in hand. If the back is ready, that of the last index is in its hand
pub record IsOnRuns (width : ℕ) (blocks : List ℕ) (bits : List Bool) (n first at from hand : ℕ)
    (ready : Bool) (back : ℕ) : Type 0 where
  pub count : need n width ≤ length blocks
  pub within : from ≤ n
  pub begun : first ≤ from
  pub order : at ≤ from
  pub passed : (i : ℕ) → at ≤ i → i < from → item bits i ≢ true
  pub ended : 0 < at → at < n → item bits at ≡ false
  pub held : 0 < from → from < n → hand ≡ slice_index_or blocks (from / width) 0
  pub held_back : IsTrue ready → from < n → back ≡ slice_index_or blocks ((n - 1) / width) 0
