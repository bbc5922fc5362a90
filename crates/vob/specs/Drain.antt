-- The bits of a list that a range takes out, and those that it leaves.
use Rattle.std.specs.Prelude.{◌≡◌, ℕ, Bool, not, List, length, map, filter}
use Rattle.std.specs.List.{range_with_len}
use Rattle.std.specs.declared.ops.Bound.{Bound}
use Rattle.vob_block.specs.Packing.{item}
use Rattle.vob_walk.specs.Matches.{within}

-- the bits of a list at the indices that a test holds of, in order
unfoldable pub bits_where : (ℕ → Bool) → List Bool → List Bool
bits_where wanted bits = map (item bits) (filter wanted (range_with_len 0 (length bits)))

-- those whose index is within a range, and those whose index isn't
-- Example: of 1011 from 1 below 3: 01
abbrev pub bits_within : Bound ℕ → Bound ℕ → List Bool → List Bool
bits_within low high bits = bits_where (within low high) bits

-- the bits whose index isn't within a range
abbrev pub bits_outside : Bound ℕ → Bound ℕ → List Bool → List Bool
bits_outside low high bits = bits_where (λ i. not (within low high i)) bits

-- the bits of a range, taken out of a list, and the others, which are left
pub record IsDrained (low high : Bound ℕ) (bits taken rest : List Bool) : Type 0 where
  pub given : taken ≡ bits_within low high bits
  pub left : rest ≡ bits_outside low high bits
