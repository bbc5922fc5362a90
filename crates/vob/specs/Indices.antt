-- A list of bits made of the indices of its set bits.
use Rattle.std.specs.Prelude.{◌≡◌, ◌↔◌, ◌⊎◌, ℕ, ◌<◌, ◌≤◌, Bool, true, IsTrue, List, length, slice_index_or, Contains}
use Rattle.vob_block.specs.Packing.{item}
use Rattle.vob.specs.declared.error.IndicesError.{IndicesError}
use Rattle.vob.specs.declared.error.IndicesError.TheVariants.{Memory, OutOfRange}

-- the bits of a length of which those at the given indices are set, and no others
-- Example: 0 and 2, length 3: 101
pub record IsMadeOf (n : ℕ) (indices : List ℕ) (bits : List Bool) : Type 0 where
  pub len : length bits ≡ n
  pub each : (i : ℕ) → IsTrue (item bits i) ↔ Contains indices i

-- a list whose bits at the given indices were set, and no others
pub record IsSetAt (indices : List ℕ) (bits after : List Bool) : Type 0 where
  pub len : length after ≡ length bits
  pub each : (i : ℕ) → IsTrue (item after i) ↔ (IsTrue (item bits i) ⊎ Contains indices i)

-- of some indices the one at a position is the first that is at or past a length
-- Example: of 1, 3, 4 at length 3: position 1
pub record IsFirstOutside (len : ℕ) (indices : List ℕ) (position : ℕ) : Type 0 where
  pub inside : position < length indices
  pub outside : len ≤ slice_index_or indices position 0
  pub lower : (k : ℕ) → k < position → slice_index_or indices k 0 < len

-- why a call with some indices below a length may fail: one of them isn't, or memory ran out for bits
abbrev pub MayRefuseIndices : ℕ → List ℕ → IndicesError → Type 0
MayRefuseIndices len indices (OutOfRange position) = IsFirstOutside len indices position
MayRefuseIndices len indices Memory = 0 < len

-- a list whose bits at the first `count` indices were set, and no others
pub record HasSet (indices : List ℕ) (count : ℕ) (bits after : List Bool) : Type 0 where
  pub len : length after ≡ length bits
  pub given : (k : ℕ) → k < count → item after (slice_index_or indices k 0) ≡ true
  pub kept : (i : ℕ) → item bits i ≡ true → item after i ≡ true
  pub only : (i : ℕ) → item after i ≡ true
      → (item bits i ≡ true) ⊎ ((k : ℕ) × (k < count) × (slice_index_or indices k 0 ≡ i))
