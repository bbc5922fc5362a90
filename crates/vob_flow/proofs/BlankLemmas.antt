-- Sets that have nothing.
use Rattle.std.proofs.Common.{◌≡◌, ◌↔◌, ℕ, ◌<◌, Bool, false, List, [], length, replicate, sym, ap, ◌∙◌, arith, inl, inr}
use Rattle.std.proofs.lemmas.Bool.{cases_lt, false≢true}
use Rattle.std.proofs.lemmas.List.{get_or-replicate, get_or_past, length-replicate}
use Rattle.vob_block.specs.Packing.{item}
use Rattle.vob.specs.Vobs.{AreOfLength}
use Rattle.vob.proofs.BitsLemmas.{item_false, row_inside}
use Rattle.vob.proofs.VobsLemmas.{of_length_at, of_length_replicate}
use Rattle.vob_flow.specs.Changes.{EachGets}
use Rattle.vob_flow.specs.Draws.{HaveShape, IsIn}
use Rattle.vob_flow.proofs.ChangesLemmas.{EachGets-all}

abbrev pub blank : ℕ → ℕ → List (List Bool)
blank count places = replicate count (replicate places false)

pub blank_none : (count places n v : ℕ) → ¬ IsIn (blank count places) n v
blank_none count places n v e =
    let less : n < count = omega (
      arith,
      row_inside (blank count places) n v e,
      length-replicate count (replicate places false),
    ) in
    false≢true (sym (item_false places v) ∙ ap (λ (bits : List Bool). item bits v)
    (sym (get_or-replicate count n (replicate places false) [] less)) ∙ e)

pub blank_long : (count places : ℕ) → AreOfLength places (blank count places)
blank_long count places =
    of_length_replicate places count (replicate places false) (length-replicate places false)

-- what each of them got
pub blank_count : (count places : ℕ) {P : ℕ → ℕ → Type 0} {after : List (List Bool)} {k : ℕ}
    → EachGets (blank count places) P after k → length after ≡ count
blank_count count places h = h.shape.count ∙ length-replicate count (replicate places false)

pub blank_each : (count places : ℕ) (P : ℕ → ℕ → Type 0) {after : List (List Bool)}
    → EachGets (blank count places) P after count → ((n v : ℕ) → P n v → n < count) → (n v : ℕ)
    → IsIn after n v ↔ P n v
blank_each count places P {after} h few = EachGets-all P h (length-replicate count (replicate places false))
    (blank_none count places) few (λ n v e. omega (arith, row_inside after n v e, blank_count count places h))

-- what the first k of them got
pub blank_some : (count places k : ℕ) (P : ℕ → ℕ → Type 0) {after : List (List Bool)}
    → EachGets (blank count places) P after k → ((n v : ℕ) → P n v → n < k) → (n v : ℕ)
    → IsIn after n v ↔ P n v
blank_some count places k P {after} h few n v = elim (cases_lt n k) [
  | inl low ↦ (
    (λ e. elim ((h.below n v low).0 e) [
      | inl old ↦ absurd (blank_none count places n v old)
      | inr new ↦ new
    ]),
    (λ p. (h.below n v low).1 (inr p)),
  )
  | inr past ↦ (
    (λ e. absurd (blank_none count places n v (ap (λ bits. item bits v) (sym (h.above n past)) ∙ e))),
    (λ p. absurd (omega (arith, past, few n v p))),
  )
]

-- two times as many sets of one length
pub shape_from_long : (places : ℕ) (sets others : List (List Bool)) → AreOfLength places sets
    → AreOfLength places others → length others ≡ length sets → HaveShape sets others
shape_from_long places sets others long long' count = record {
  count = count;
  long = λ n. elim (cases_lt n (length sets)) [
    | inl less ↦ of_length_at places others n [] long' (omega (arith, less, count))
        ∙ sym (of_length_at places sets n [] long less)
    | inr past ↦ ap length (get_or_past others n [] (omega (arith, past, count))
        ∙ sym (get_or_past sets n [] past))
  ];
}
