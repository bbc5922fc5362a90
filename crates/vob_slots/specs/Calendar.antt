-- Calendars of slots of time, a bit each: a set bit is a slot that is booked.
use Rattle.std.specs.Prelude.{◌≡◌, ℕ, ◌+◌, ◌-◌, ◌<◌, ◌≤◌, Bool, false, nat_le, List, length}
use Rattle.std.specs.Prelude.{All, AllPairs, Any}
use Rattle.std.specs.declared.ops.Range.{Range}
use Rattle.vob_block.specs.Packing.{item}

-- a slot is free where it is there and not booked
abbrev pub IsFree : List Bool → ℕ → Type 0
IsFree calendar i = (i < length calendar) × (item calendar i ≡ false)

-- each slot from one to below another is free
abbrev pub AreFree : List Bool → ℕ → ℕ → Type 0
AreFree calendar start end = (i : ℕ) → start ≤ i → i < end → IsFree calendar i

-- a slot is free in both calendars
abbrev pub IsFreeInBoth : List Bool → List Bool → ℕ → Type 0
IsFreeInBoth first second i = IsFree first i × IsFree second i

-- the slots from one to below another are free in both, and the ones beside them are not
pub record IsCommonStretch (first second : List Bool) (start end : ℕ) : Type 0 where
  pub some : start < end
  pub free : (i : ℕ) → start ≤ i → i < end → IsFreeInBoth first second i
  pub before : (i : ℕ) → i + 1 ≡ start → ¬ IsFreeInBoth first second i
  pub after : ¬ IsFreeInBoth first second end

-- whether a stretch has `least` slots or more
abbrev pub is_long : ℕ → Range ℕ → Bool
is_long least stretch = nat_le least (stretch.end - stretch.start)

-- a list has each such stretch of at least `least` slots, no other, and in order
pub record AreCommon (first second : List Bool) (least : ℕ) (stretches : List (Range ℕ))
    : Type 0 where
  pub each : All (λ s. IsCommonStretch first second s.start s.end × (s.start + least ≤ s.end))
      stretches
  pub all : (start end : ℕ) → IsCommonStretch first second start end → start + least ≤ end
      → Any (λ s. (s.start ≡ start) × (s.end ≡ end)) stretches
  pub order : AllPairs (λ s next. s.end < next.start) stretches
