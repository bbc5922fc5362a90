-- What a call makes of the numbered lists: an answer, and the lists after it.
use Rattle.std.specs.Prelude.{ℕ, ◌-◌, ◌^◌, List, [], ◌∷◌, ◌++◌, length, slice_get, slice_set, nat_lt, ◌==◌, Bool, if◌then◌else◌, Option, Some, None}
use Rattle.std.specs.Option.{option_map_or}
use Rattle.vob_run.specs.Answer.{Answer, flag, made, skipped, refused, Outcome, outcome}

-- the greatest length of a list of bits
abbrev pub greatest_length : ℕ
greatest_length = 2 ^ 64 - 1

module _ (lists : List (List Bool)) where
  -- what f says of the list with this number, and `skipped` where there is none
  abbrev pub on : ℕ → (List Bool → Outcome) → Outcome
  on which f = option_map_or f (slice_get lists which) (outcome skipped lists)

  -- what f says of the lists with these numbers, and `skipped` where there aren't two such lists
  abbrev pub on_two : ℕ → ℕ → (List Bool → List Bool → Outcome) → Outcome
  on_two which other f =
      if which == other then outcome skipped lists
      else on which (λ bits. on other (λ others. f bits others))

  -- the same, of two lists of one length
  abbrev pub on_same_length : ℕ → ℕ → (List Bool → List Bool → Outcome) → Outcome
  on_same_length which other f =
      on_two which other
      (λ bits others. if length bits == length others then f bits others else outcome skipped lists)

  -- an answer, with all lists as they were
  abbrev pub tells : Answer → Outcome
  tells answer = outcome answer lists

  -- an answer, with these bits in the list with this number
  abbrev pub leaves : ℕ → Answer → List Bool → Outcome
  leaves which answer bits = outcome answer (slice_set lists which bits)

  -- one list more after the others, whose number is told
  abbrev pub makes : List Bool → Outcome
  makes bits = outcome (made (length lists)) (lists ++ bits ∷ [])

  -- a list made two: these bits in its place, and those in a list more after the others
  abbrev pub divides : ℕ → List Bool → List Bool → Outcome
  divides which kept given =
      outcome (made (length lists)) (slice_set lists which kept ++ given ∷ [])

  -- `refused 1` where the length asked for is past the greatest
  abbrev pub unless_long : ℕ → Outcome → Outcome
  unless_long asked o = if nat_lt greatest_length asked then tells (refused 1) else o

  -- a bit that is there is told, and `skipped` is said where there is none
  abbrev pub tells_bit : Option Bool → Outcome
  tells_bit None = tells skipped
  tells_bit (Some value) = tells (flag value)
