-- The first byte that isn't a digit: there is one at most, and none where all are.
use Rattle.std.proofs.Common.{◌≡◌, ℕ, ◌<◌, List, [], length, All, take, inl, inr, slice_get, Some, ◌∙◌, ap, subst, arith}
use Rattle.std.proofs.lemmas.Bool.{cases_order}
use Rattle.std.proofs.lemmas.List.{get_or-take, length-take-le}
use Rattle.std.proofs.lemmas.Option.{get_or_from_slice_get, slice_get_within}
use Rattle.vob_block.specs.Digits.{IsDigit, IsFirstBad}

-- where each byte is a digit, a byte is
pub digit_there : (text : List ℕ) (at byte : ℕ) → All IsDigit text →
    slice_get text at ≡ Some byte → IsDigit byte
digit_there text at byte all there =
    subst IsDigit (get_or_from_slice_get text at byte byte there)
    (all at byte (slice_get_within text at byte there))

pub no-bad : (text : List ℕ) (at : ℕ) → All IsDigit text → ¬ IsFirstBad text at
no-bad text at all h = h.bad (digit_there text at h.byte all h.there)

pub no-bad-of-none : (text : List ℕ) (at : ℕ) → text ≡ [] → ¬ IsFirstBad text at
no-bad-of-none text at none h =
    let inside = slice_get_within text at h.byte h.there in
    absurd (omega (arith, ap length none))

-- one of two that are the first isn't before the other
not_before : (text : List ℕ) (at other : ℕ) → IsFirstBad text at → IsFirstBad text other →
    ¬ (at < other)
not_before text at other h k less =
    let inside = slice_get_within text at h.byte h.there in
    let read = get_or-take other text at h.byte less
    ∙ get_or_from_slice_get text at h.byte h.byte h.there in
    let short = slice_get_within text other k.byte k.there in
    let count = length-take-le other text (omega (arith, short)) in
    let within : at < length (take other text) = omega (arith, count, less) in
    h.bad (subst IsDigit read (k.before at h.byte within))

pub one-first-bad : (text : List ℕ) (at other : ℕ) → IsFirstBad text at →
    IsFirstBad text other → at ≡ other
one-first-bad text at other h k = elim (cases_order at other) [
  | inl same ↦ same
  | inr less ↦ elim less [
    | inl below ↦ absurd (not_before text at other h k below)
    | inr above ↦ absurd (not_before text other at k h above)
  ]
]
