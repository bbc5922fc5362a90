-- What a walk over runs gives at its back end, and at both ends together.
use Rattle.std.specs.Prelude.{◌≡◌, ◌≢◌, ℕ, ◌+◌, ◌<◌, ◌≤◌, Bool, true, List, [], ◌∷◌, ◌++◌, length, reverse}
use Rattle.std.specs.Prelude.{take, Option, Some, MatchOption}
use Rattle.std.specs.Iterator.{Drains, YieldsLast}
use Rattle.std.specs.declared.ops.Range.{Range}
use Rattle.vob_block.specs.Packing.{item}
use Rattle.vob_walk.specs.declared.walk.End.{End}
use Rattle.vob_walk.specs.declared.walk.End.TheVariants.{Front, Back}
use Rattle.vob_walk.specs.Runs.{AreRuns, GivesRun, IsMaximalRun, RunWalk, runs_of}

-- the bits from index a to below b are the last run of some bits, at or above another index
-- Example: of 10110: 2 to 4
pub record IsLastRun (bits : List Bool) (from a b : ℕ) : Type 0 where
  pub above : from ≤ a
  pub run : IsMaximalRun bits a b
  pub last : (i : ℕ) → b ≤ i → item bits i ≢ true

-- what a call of `next_back` does: the last of the runs still to give, if any. The walk goes on over
-- the bits before that run. No block is read again, but for the one that may be
pub record GivesLastRun (walk : RunWalk) (answer : Option (Range ℕ)) (after : RunWalk) : Type 0 where
  pub gives : YieldsLast (λ (w : RunWalk). w.rest) walk answer after
  pub at : after.at ≡ walk.at
  pub run : MatchOption answer
      (((i : ℕ) → walk.at ≤ i → i < length walk.bits → item walk.bits i ≢ true)
      × (after.bits ≡ walk.bits))
      (λ run. IsLastRun walk.bits walk.at run.start run.end
      × (after.bits ≡ take run.start walk.bits))
  pub reads : after.reads + after.left + after.again ≤ walk.reads + walk.left + walk.again
  pub rises : walk.reads ≤ after.reads

-- a walk up to `None` from the back gives all runs, the last one first
abbrev pub WalkBackGivesRuns : Type 0
WalkBackGivesRuns =
    (walk : RunWalk) (bits : List Bool) (runs : List (Range ℕ)) → walk.rest ≡ runs_of bits
    → Drains GivesLastRun walk runs → AreRuns bits (reverse runs)

-- pulls at either end, each with its answer, take one walk to another
abbrev pub AreRunsPulled : RunWalk → List (End × Option (Range ℕ)) → RunWalk → Type 0
AreRunsPulled walk [] after = walk ≡ after
AreRunsPulled walk ((Front, answer) ∷ pulls) after =
    (next : RunWalk) × GivesRun walk answer next × AreRunsPulled next pulls after
AreRunsPulled walk ((Back, answer) ∷ pulls) after =
    (next : RunWalk) × GivesLastRun walk answer next × AreRunsPulled next pulls after

-- the runs that these pulls gave at the front, in order, and those that they gave at the back, the
-- last one of them first
abbrev pub front_runs : List (End × Option (Range ℕ)) → List (Range ℕ)
front_runs [] = []
front_runs ((Front, Some run) ∷ pulls) = run ∷ front_runs pulls
front_runs (pull ∷ pulls) = front_runs pulls

-- and those that they gave at the back, the last one of them first
abbrev pub back_runs : List (End × Option (Range ℕ)) → List (Range ℕ)
back_runs [] = []
back_runs ((Back, Some run) ∷ pulls) = back_runs pulls ++ run ∷ []
back_runs (pull ∷ pulls) = back_runs pulls

-- what the front gave, what is left, and what the back gave are the runs of the bits: no run is given
-- twice or in parts, and none is left out
abbrev pub RunsAreGivenOnce : Type 0
RunsAreGivenOnce =
    (walk after : RunWalk) (bits : List Bool) (pulls : List (End × Option (Range ℕ)))
    → walk.rest ≡ runs_of bits → AreRunsPulled walk pulls after
    → front_runs pulls ++ (after.rest ++ back_runs pulls) ≡ runs_of bits
