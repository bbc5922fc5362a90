-- What Vobs as sets of indices obey, and their runs.
use Rattle.std.specs.Prelude.{◌≡◌, ◌↔◌, ℕ, ◌<◌, Bool, true, false, not, ◌&&◌, List, length, map}
use Rattle.std.specs.Prelude.{◌+◌, ◌≤◌, take, replicate, Option, Some, IsTrue, Any, Contains}
use Rattle.std.specs.Iterator.{Drains}
use Rattle.std.specs.declared.ops.Bound.TheVariants.{Unbounded}
use Rattle.std.specs.declared.ops.Range.{Range}
use Rattle.vob_block.specs.Packing.{item}
use Rattle.vob_block.specs.Pointwise.{pointwise, without}
use Rattle.vob_walk.specs.Matches.{matches}
use Rattle.vob_walk.specs.Walk.{Walk, IsFresh}
use Rattle.vob.specs.Bits.{count_of}
use Rattle.vob.specs.Room.{IsRoom, IsUnsetRun}
use Rattle.vob_walk.specs.Runs.{AreRuns, IsMaximalRun, RunWalk, GivesRun, runs_of}
use Rattle.vob.specs.Sets.{IsIndexOfRank}

-- what a list has and another hasn't is what both the first and the other negated have
abbrev pub DifferenceIsAndNot : Type 0
DifferenceIsAndNot =
    (bits others : List Bool) → pointwise without bits others ≡ pointwise ◌&&◌ bits (map not others)

-- n bits are all false exactly if none of them is counted
abbrev pub NoneIsCounted : Type 0
NoneIsCounted =
    (bits : List Bool) (n : ℕ) → length bits ≡ n
    → (bits ≡ replicate n false) ↔ (count_of true bits ≡ 0)

-- the number that an index was selected by is how many set bits stand below it
abbrev pub RankUndoesSelect : Type 0
RankUndoesSelect =
    (bits : List Bool) (k i : ℕ) → IsIndexOfRank bits k (Some i) → count_of true (take i bits) ≡ k

-- the index of a set bit is the one that is selected by how many set bits stand below it
abbrev pub SelectUndoesRank : Type 0
SelectUndoesRank =
    (bits : List Bool) (i : ℕ) (answer : Option ℕ) → IsTrue (item bits i)
    → IsIndexOfRank bits (count_of true (take i bits)) answer → answer ≡ Some i

-- a list is that of the runs of some bits exactly where it has each of them in order, as long as it
-- can be
abbrev pub RunsAreMaximal : Type 0
RunsAreMaximal =
    (bits : List Bool) (runs : List (Range ℕ)) → (runs ≡ runs_of bits) ↔ AreRuns bits runs

-- a walk over runs from the first bit on, up to `None`, gives all of them
abbrev pub WalkGivesRuns : Type 0
WalkGivesRuns =
    (walk : RunWalk) (runs : List (Range ℕ)) → walk.at ≡ 0 → Drains GivesRun walk runs
    → AreRuns walk.bits runs

-- the runs of the bits negated are the longest stretches of unset bits
abbrev pub UnsetRunsAreMaximal : Type 0
UnsetRunsAreMaximal =
    (bits : List Bool) (a b : ℕ) → IsMaximalRun (map not bits) a b ↔ IsUnsetRun bits a b

-- unset bits in a row, if there are some, lie within one run of unset bits
abbrev pub RoomLiesInOneRun : Type 0
RoomLiesInOneRun =
    (bits : List Bool) (runs : List (Range ℕ)) (n i : ℕ) → AreRuns (map not bits) runs
    → 0 < n → IsRoom n bits i → Any (λ run. (run.start ≤ i) × (i + n ≤ run.end)) runs

-- a walk over two lists combined gives an index exactly where f makes true of its two bits
abbrev pub CombinedMatchesExactly : Type 0
CombinedMatchesExactly =
    (f : Bool → Bool → Bool) (bits others : List Bool) (i : ℕ) → length bits ≡ length others
    → Contains (matches (pointwise f bits others) true Unbounded Unbounded) i
    ↔ ((i < length bits) × IsTrue (f (item bits i) (item others i)))

-- and it is the walk over the list that the combination leaves
abbrev pub CombinedWalkIsOwn : Type 0
CombinedWalkIsOwn =
    (f : Bool → Bool → Bool) (bits others after : List Bool) (width : ℕ) (walk own : Walk)
    → after ≡ pointwise f bits others
    → IsFresh walk (pointwise f bits others) true Unbounded Unbounded width
    → IsFresh own after true Unbounded Unbounded width → walk ≡ own
