-- The indices of the bits of one value, cut to a range.
use Rattle.std.specs.Prelude.{◌≡◌, ℕ, ◌/◌, ◌<◌, ◌≤◌, Bool, true, false, ◌&&◌, ◌==◌, not, nat_le, nat_lt, List, length, count_by, filter}
use Rattle.std.specs.List.{list_any, range_with_len}
use Rattle.std.specs.declared.ops.Bound.{Bound}
use Rattle.std.specs.declared.ops.Bound.TheVariants.{Included, Excluded, Unbounded}
use Rattle.vob_block.specs.Packing.{item}

-- whether an index meets the start of a range, and its end, as whole numbers
abbrev pub from_start : Bound ℕ → ℕ → Bool
from_start (Included a) i = nat_le a i
from_start (Excluded a) i = nat_lt a i
from_start Unbounded i = true

-- whether an index meets the end of a range
abbrev pub up_to_end : Bound ℕ → ℕ → Bool
up_to_end (Included b) i = nat_le i b
up_to_end (Excluded b) i = nat_lt i b
up_to_end Unbounded i = true

-- whether it meets both
-- Example: 2 is in "above 1, up to 2"
abbrev pub within : Bound ℕ → Bound ℕ → ℕ → Bool
within low high i = from_start low i && up_to_end high i

-- of the indices below len a range has those from start to below stop
-- Example: 7.. of 10: 7 to 10
pub record IsRangeOf (low high : Bound ℕ) (len start stop : ℕ) : Type 0 where
  pub order : start ≤ stop
  pub inside : stop ≤ len
  pub each : (i : ℕ) → i < len → within low high i ≡ (nat_le start i && nat_lt i stop)

-- p holds of the indices from some start to below some stop, at most len. A call says so at any
-- range, also where the type of the range doesn't state its bounds
abbrev pub ForSomeRange : ℕ → (Bound ℕ → Bound ℕ → Type 0) → Type 0
ForSomeRange len p =
    (start : ℕ) × (stop : ℕ) × (start ≤ stop) × (stop ≤ len) × p (Included start) (Excluded stop)

-- whether a bit has the value that is wanted
abbrev pub has_value : Bool → Bool → Bool
has_value true b = b
has_value false b = not b

-- the rising indices within the range whose bits have the value
-- Example: of 0100, false, below 10: 0, 2, 3
unfoldable pub matches : List Bool → Bool → Bound ℕ → Bound ℕ → List ℕ
matches bits value low high =
    filter (λ i. within low high i && has_value value (item bits i))
    (range_with_len 0 (length bits))

-- how many blocks hold an index below n within the range
-- Example: 9 bits at width 8: 2
unfoldable pub blocks_met : Bound ℕ → Bound ℕ → ℕ → ℕ → ℕ
blocks_met low high n width =
    count_by (λ k. list_any (λ i. i / width == k && within low high i) (range_with_len 0 n))
    (range_with_len 0 n)
