-- The runs of a list of bits: its longest stretches of set bits.
use Rattle.std.specs.Prelude.{◌≡◌, ◌≢◌, ℕ, ◌+◌, ◌-◌, ◌<◌, ◌≤◌, Bool, true, false, ◌&&◌, not, List}
use Rattle.std.specs.Prelude.{◌∷◌, length, drop, filter, map, Option, MatchOption, All, Any, AllPairs}
use Rattle.std.specs.List.{position_or_len, range_with_len}
use Rattle.std.specs.Iterator.{YieldsFirst}
use Rattle.std.specs.declared.ops.Bound.{Bound}
use Rattle.std.specs.declared.ops.Range.{Range}
use Rattle.vob_block.specs.Packing.{item}
use Rattle.vob_walk.specs.Matches.{blocks_met, within}

-- a run starts at each set bit whose predecessor is unset or missing
abbrev pub starts_run : List Bool → ℕ → Bool
starts_run bits i = item bits i && not (item (false ∷ bits) i)

-- and ends at the next unset bit, or at the length
abbrev pub run_end : List Bool → ℕ → ℕ
run_end bits i = i + position_or_len not (drop i bits)

-- the runs that start at an index or after it, in order, and all runs
unfoldable pub runs_from : List Bool → ℕ → List (Range ℕ)
runs_from bits from =
    map (λ i. record { start = i; end = run_end bits i })
    (filter (starts_run bits) (range_with_len from (length bits - from)))

-- all runs of a list, in order
abbrev pub runs_of : List Bool → List (Range ℕ)
runs_of bits = runs_from bits 0

-- the bits from index a to below b are set, and the ones beside them are not or are not there
-- Example: of 10110: from 0 to below 1, and from 2 to below 4
pub record IsMaximalRun (bits : List Bool) (a b : ℕ) : Type 0 where
  pub some : a < b
  pub inside : b ≤ length bits
  pub set : (i : ℕ) → a ≤ i → i < b → item bits i ≡ true
  pub before : (i : ℕ) → i + 1 ≡ a → item bits i ≡ false
  pub behind : item bits b ≡ false

-- index i is the first one at or above another whose bit has the value
pub record IsFirstFrom (value : Bool) (bits : List Bool) (from i : ℕ) : Type 0 where
  pub above : from ≤ i
  pub inside : i < length bits
  pub there : item bits i ≡ value
  pub between : (j : ℕ) → from ≤ j → j < i → item bits j ≢ value

-- it begins at the first set bit at or above another index
pub record IsFirstRun (bits : List Bool) (from a b : ℕ) : Type 0 where
  pub first : IsFirstFrom true bits from a
  pub run : IsMaximalRun bits a b

-- a walk over runs: the runs still to give, the bits whose runs they are, the index below which each
-- run was given, how many blocks were read, how many are unread, and how many may be read again: one,
-- until the back has a block in hand
pub record RunWalk : Type 0 where
  pub rest : List (Range ℕ)
  pub bits : List Bool
  pub at : ℕ
  pub reads : ℕ
  pub left : ℕ
  pub again : ℕ

-- what a call of `next` does: the first of the runs still to give, if any. It is the first run from
-- index `at` on, and the walk goes on at its end. No block is read again
pub record GivesRun (walk : RunWalk) (answer : Option (Range ℕ)) (after : RunWalk) : Type 0 where
  pub gives : YieldsFirst (λ (w : RunWalk). w.rest) walk answer after
  pub bits : after.bits ≡ walk.bits
  pub run : MatchOption answer
      (((i : ℕ) → walk.at ≤ i → i < length walk.bits → item walk.bits i ≢ true)
      × (after.at ≡ walk.at))
      (λ run. IsFirstRun walk.bits walk.at run.start run.end × (after.at ≡ run.end))
  pub reads : after.reads + after.left ≤ walk.reads + walk.left
  pub rises : walk.reads ≤ after.reads
  pub again : after.again ≡ walk.again

-- a list has each run of the bits, in their order, and so each set bit in one of them
pub record AreRuns (bits : List Bool) (runs : List (Range ℕ)) : Type 0 where
  pub each : All (λ run. IsMaximalRun bits run.start run.end) runs
  pub order : AllPairs (λ run next. run.end < next.start) runs
  pub all : (i : ℕ) → item bits i ≡ true → Any (λ run. (run.start ≤ i) × (i < run.end)) runs

-- the bits that a range keeps: those whose index isn't within it are unset
-- Example: of 1011 from 1 below 3: 0010
abbrev pub kept : Bound ℕ → Bound ℕ → List Bool → List Bool
kept low high bits =
    map (λ i. within low high i && item bits i) (range_with_len 0 (length bits))

-- a walk over the runs of the bits that a range keeps. No blocks are read but those that hold an index
-- of the range
pub record IsOverRange (low high : Bound ℕ) (bits : List Bool) (width : ℕ) (walk : RunWalk) : Type 0
  where
    pub rest : walk.rest ≡ runs_of (kept low high bits)
    pub runs : AreRuns (kept low high bits) walk.rest
    pub each : (i : ℕ) → item walk.bits i ≡ item (kept low high bits) i
    pub reads : walk.reads + walk.left ≡ blocks_met low high (length bits) width
