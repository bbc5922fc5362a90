-- What lists of bits obey, and so the calls that stand for their operations.
use Rattle.std.specs.Prelude.{◌≡◌, ◌≢◌, ◌↔◌, ℕ, ◌<◌, ◌≤◌, Bool, false, not, ◌&&◌, ◌||◌, List, []}
use Rattle.std.specs.Prelude.{◌∷◌, ◌++◌, length, map, take, drop, replicate, slice_get, slice_set, Some, IsTrue}
use Rattle.std.specs.declared.ops.Bound.TheVariants.{Included, Unbounded}
use Rattle.vob_block.specs.Digits.{digit, IsFirstBad}
use Rattle.vob_block.specs.Packing.{item, packing}
use Rattle.vob_block.specs.Pointwise.{differ, pointwise}
use Rattle.vob.specs.Drain.{bits_within, bits_outside}
use Rattle.vob.specs.Same.{same_bits}

-- a list cut at an index and joined again is the list
abbrev pub JoinUndoesCut : Type 0
JoinUndoesCut = (bits : List Bool) (at : ℕ) → take at bits ++ drop at bits ≡ bits

-- to drain from an index on leaves and gives the two parts that a cut there makes
abbrev pub DrainFromIsSplit : Type 0
DrainFromIsSplit =
    (bits : List Bool) (at : ℕ) → at ≤ length bits
    → (bits_outside (Included at) Unbounded bits ≡ take at bits)
    × (bits_within (Included at) Unbounded bits ≡ drop at bits)

-- a list with others pushed to it, one after another
abbrev pub pushes : List Bool → List Bool → List Bool
pushes bits [] = bits
pushes bits (value ∷ others) = pushes (bits ++ value ∷ []) others

-- joining a list leaves what pushing each of its bits in order leaves
abbrev pub JoinIsPushes : Type 0
JoinIsPushes = (bits others : List Bool) → bits ++ others ≡ pushes bits others

-- the test of two lists is true exactly where they are equal
abbrev pub EqualWhereListsAre : Type 0
EqualWhereListsAre = (bits others : List Bool) → IsTrue (same_bits bits others) ↔ (bits ≡ others)

-- two lists are equal exactly where their lengths and their blocks are
abbrev pub EqualWhereStorageIs : Type 0
EqualWhereStorageIs =
    (width : ℕ) → 0 < width → (bits others : List Bool)
    → (bits ≡ others) ↔ ((length bits ≡ length others) × (packing bits width ≡ packing others width))

-- two lists differ at some place of the first
abbrev pub DifferSomewhere : List Bool → List Bool → Type 0
DifferSomewhere bits others = (i : ℕ) × (i < length bits) × (item bits i ≢ item others i)

-- two lists of one length are unequal exactly where they differ at some place
abbrev pub UnequalWherePlacesDiffer : Type 0
UnequalWherePlacesDiffer =
    (bits others : List Bool) → length bits ≡ length others → (bits ≢ others) ↔ DifferSomewhere bits others

-- a list changes by being combined with another exactly where some bit does
abbrev pub PointwiseChangesBits : Type 0
PointwiseChangesBits =
    (f : Bool → Bool → Bool) (bits others : List Bool) → length bits ≡ length others
    → (pointwise f bits others ≢ bits) ↔ DifferSomewhere (pointwise f bits others) bits

-- a list changes by a bit that is written exactly where that bit was another
abbrev pub SetChangesBit : Type 0
SetChangesBit =
    (bits : List Bool) (index : ℕ) (value : Bool) → index < length bits
    → (slice_get bits index ≢ Some value) ↔ (slice_set bits index value ≢ bits)

-- every bit negated twice is the list
abbrev pub NegateTwice : Type 0
NegateTwice = (bits : List Bool) → map not (map not bits) ≡ bits

-- equal lists differ at no place, so that every bit of both combined is false
abbrev pub XorOfEqual : Type 0
XorOfEqual = (bits others : List Bool) → bits ≡ others → pointwise differ bits others ≡ replicate (length bits) false

-- what not both have is what either hasn't
abbrev pub NegatedAnd : Type 0
NegatedAnd =
    (bits others : List Bool) → map not (pointwise ◌&&◌ bits others) ≡ pointwise ◌||◌ (map not bits) (map not others)

-- digits are those of one list alone, and none of them is bad
abbrev pub DigitsGiveBits : Type 0
DigitsGiveBits =
    (bits : List Bool)
    → ((others : List Bool) → map digit others ≡ map digit bits → others ≡ bits)
    × ((at : ℕ) → ¬ IsFirstBad (map digit bits) at)
