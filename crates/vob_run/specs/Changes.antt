-- What the calls that change a list of bits leave in its place, and what they answer.
use Rattle.std.specs.Prelude.{ℕ, ◌+◌, ◌-◌, List, [], ◌∷◌, ◌++◌, length, take, drop, slice_get, slice_set, nat_lt, Bool, not, if◌then◌else◌}
use Rattle.std.specs.Option.{option_map_or}
use Rattle.std.specs.declared.ops.Bound.{Bound}
use Rattle.vob_block.specs.Pointwise.{differ, pointwise}
use Rattle.vob.specs.Drain.{bits_within, bits_outside}
use Rattle.vob.specs.Same.{same_bits}
use Rattle.vob_run.specs.Answer.{done, bit, flag, skipped, refused, Outcome}
use Rattle.vob_run.specs.Outcomes.{greatest_length, tells, leaves, divides, unless_long}

module _ (lists : List (List Bool)) where
  -- the last bit taken off, and told
  abbrev pub popped : ℕ → List Bool → Outcome
  popped which bits =
      leaves lists which (bit (slice_get bits (length bits - 1))) (take (length bits - 1) bits)

  -- a bit that is there is written, and whether it changed is told
  abbrev pub written : ℕ → ℕ → Bool → List Bool → Outcome
  written which index value bits =
      option_map_or
      (λ old. leaves lists which (flag (differ old value)) (slice_set bits index value))
      (slice_get bits index) (tells lists skipped)

  -- one bit more, unless the length is the greatest
  abbrev pub pushed : ℕ → Bool → List Bool → Outcome
  pushed which value bits =
      if nat_lt (length bits) greatest_length then leaves lists which done (bits ++ value ∷ [])
      else tells lists (refused 1)

  -- the bits of another list after those of this one, unless they are too many
  abbrev pub extended : ℕ → List Bool → List Bool → Outcome
  extended which more bits =
      unless_long lists (length bits + length more) (leaves lists which done (bits ++ more))

  -- the bits from an index on split off, into a list after the others, unless it is past the end
  abbrev pub split : ℕ → ℕ → List Bool → Outcome
  split which index bits =
      if nat_lt (length bits) index then tells lists (refused 4)
      else divides lists which (take index bits) (drop index bits)

  -- the bits of a range taken out, into a list after the others
  abbrev pub drained : ℕ → Bound ℕ → Bound ℕ → List Bool → Outcome
  drained which start end bits =
      divides lists which (bits_outside start end bits) (bits_within start end bits)

  -- two lists combined by f, bit by bit, in the place of the first; whether a bit changed is told
  abbrev pub combined : (Bool → Bool → Bool) → ℕ → List Bool → List Bool → Outcome
  combined f which bits others =
      leaves lists which (flag (not (same_bits bits (pointwise f bits others))))
      (pointwise f bits others)
