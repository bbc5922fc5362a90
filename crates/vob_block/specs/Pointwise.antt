-- Two lists, place by place.
use Rattle.std.specs.Prelude.{◌≡◌, ◌≢◌, ◌↔◌, ℕ, ◌^◌, ◌<◌, Bool, true, false, not, ◌&&◌, IsTrue, List, length, map, slice_index_or, All}
use Rattle.std.specs.List.{zip}
use Rattle.vob_block.specs.Places.{place, HasPlaces}

-- whether two bits differ
abbrev pub differ : Bool → Bool → Bool
differ true value = not value
differ false value = value

-- a bit that the first has and the other hasn't
-- Example: true and false give true
abbrev pub without : Bool → Bool → Bool
without bit other = bit && not other

-- the bits of both lists combined by f, one place after another
-- Example: differ of 1101 and 1011: 0110
abbrev pub pointwise : (Bool → Bool → Bool) → List Bool → List Bool → List Bool
pointwise f bits others = map (λ pair. f pair.0 pair.1) (zip bits others)

-- the blocks of both lists combined by f, at each of their places
pub record IsPointwise (width : ℕ) (f : Bool → Bool → Bool) (blocks others after : List ℕ)
    : Type 0 where
  pub count : length after ≡ length blocks
  pub each : (k : ℕ) → k < length blocks → HasPlaces width (slice_index_or after k 0)
      (λ j. f (place j (slice_index_or blocks k 0)) (place j (slice_index_or others k 0)))

-- blocks combined with others by f, and whether a block changed
-- Example: [237] and [13] by "and": [13], true
pub record IsCombined (width : ℕ) (f : Bool → Bool → Bool) (blocks others after : List ℕ)
    (changed : Bool) : Type 0 where
  pub places : IsPointwise width f blocks others after
  pub within : All (λ x. x < 2 ^ width) after
  pub flag : IsTrue changed ↔ (after ≢ blocks)
