-- Within the crate: a block in hand at an end of a walk. No public contract cites this page.
use Rattle.std.specs.Prelude.{◌≡◌, ℕ, ◌+◌, ◌-◌, ◌^◌, ◌<◌, ◌≤◌, true, List, [], ◌++◌, length}
use Rattle.std.specs.List.{range_with_len}
use Rattle.vob_block.specs.Places.{place, HasZerosLow}
use Rattle.vob_walk.specs.Cursor.{block_indices}

-- a block in hand: within the width, and its indices are below a length
pub record IsBlockBits (width at block : ℕ) : Type 0 where
  pub within : block < 2 ^ width
  pub fits : (j : ℕ) → j < width → place j block ≡ true → at + j + 1 < 2 ^ 64

-- a block in hand with how many indices are left and the first of them, if there is one
pub record IsReady (width at block left ready : ℕ) : Type 0 where
  pub bits : IsBlockBits width at block
  pub count : left ≡ length (block_indices width at block)
  pub first : 0 < left → (n : ℕ) × HasZerosLow width block n × (ready ≡ at + n)

-- a block in hand at the front: some places, or a run of indices; beside a run there are none
pub record IsFrontBits (width : ℕ) (places : List ℕ) (first run : ℕ) : Type 0 where
  pub within : run ≤ width
  pub begins : 0 < run → width ≤ first + run
  pub fits : first + run < 2 ^ 64
  pub alone : 0 < run → places ≡ []

-- the indices in hand at the back: those of true places, and a run of them from place 0 on
abbrev pub back_indices : ℕ → ℕ → ℕ → ℕ → List ℕ
back_indices width at word past = block_indices width at word ++ range_with_len at (past - at)

-- a block in hand at the back: some places, or a run up to index past; beside a run the word is 0
pub record IsBackBits (width at word past : ℕ) : Type 0 where
  pub bits : IsBlockBits width at word
  pub order : at ≤ past
  pub inside : past ≤ at + width
  pub alone : at < past → word ≡ 0
