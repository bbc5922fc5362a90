-- What calls on a Vob as a set of indices answer.
use Rattle.std.specs.Prelude.{◌≡◌, ◌≢◌, ◌↔◌, ℕ, ◌<◌, ◌≤◌, Bool, true, false, IsTrue, List, length, take, Option, Some, None}
use Rattle.vob_block.specs.Packing.{item}
pub use Rattle.vob_walk.specs.Runs.{IsFirstFrom}
use Rattle.vob.specs.Bits.{count_of}

-- an index is that of a bit that has a value
abbrev pub IsBit : Bool → List Bool → ℕ → Type 0
IsBit value bits i = (i < length bits) × (item bits i ≡ value)

-- some bit of a list has a value
-- Example: 101 has both values
abbrev pub HasBit : Bool → List Bool → Type 0
HasBit value bits = (i : ℕ) × (i < length bits) × (item bits i ≡ value)

-- every bit has it
abbrev pub HasOnly : Bool → List Bool → Type 0
HasOnly value bits = (i : ℕ) → i < length bits → item bits i ≡ value

-- index i is the last one at or below another whose bit has the value
pub record IsLastUpTo (value : Bool) (bits : List Bool) (upto i : ℕ) : Type 0 where
  pub below : i ≤ upto
  pub inside : i < length bits
  pub there : item bits i ≡ value
  pub between : (j : ℕ) → i < j → j ≤ upto → j < length bits → item bits j ≢ value

-- a result is that first index, and None if no index at or above has such a bit
-- Example: of 10110, set: from 1, index 2
pub record IsNext (value : Bool) (bits : List Bool) (from : ℕ) (answer : Option ℕ) : Type 0 where
  pub some : (i : ℕ) → (answer ≡ Some i) ↔ IsFirstFrom value bits from i
  pub none : (answer ≡ None)
      ↔ ((i : ℕ) → from ≤ i → i < length bits → item bits i ≢ value)

-- a result is that last index, and None if no index at or below has such a bit
pub record IsPrevious (value : Bool) (bits : List Bool) (upto : ℕ) (answer : Option ℕ)
    : Type 0 where
  pub some : (i : ℕ) → (answer ≡ Some i) ↔ IsLastUpTo value bits upto i
  pub none : (answer ≡ None)
      ↔ ((i : ℕ) → i ≤ upto → i < length bits → item bits i ≢ value)

-- the bit at index i is set, and k set bits stand below it
pub record IsOfRank (bits : List Bool) (k i : ℕ) : Type 0 where
  pub there : item bits i ≡ true
  pub below : count_of true (take i bits) ≡ k

-- an answer is the index of that set bit, and None where there are at most k set bits
-- Example: of 1011: rank 1 is index 2
pub record IsIndexOfRank (bits : List Bool) (k : ℕ) (answer : Option ℕ) : Type 0 where
  pub some : (i : ℕ) → (answer ≡ Some i) ↔ IsOfRank bits k i
  pub none : (answer ≡ None) ↔ (count_of true bits ≤ k)

-- each index of one set is in another
-- Example: 100 and 101
abbrev pub IsSubset : List Bool → List Bool → Type 0
IsSubset bits others = (i : ℕ) → IsTrue (item bits i) → IsTrue (item others i)

-- no index is in both
-- Example: 100 and 011
abbrev pub AreDisjoint : List Bool → List Bool → Type 0
AreDisjoint bits others = (i : ℕ) → IsTrue (item bits i) → item others i ≡ false

-- some index is in one set and not in another
abbrev pub HasOther : List Bool → List Bool → Type 0
HasOther bits others =
    (i : ℕ) × (i < length bits) × (item bits i ≡ true) × (item others i ≡ false)

-- some index is in both
abbrev pub HasShared : List Bool → List Bool → Type 0
HasShared bits others =
    (i : ℕ) × (i < length bits) × (item bits i ≡ true) × (item others i ≡ true)
