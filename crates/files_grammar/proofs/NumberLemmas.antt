-- The states that are entered, and their numbers.
use Rattle.std.proofs.Common.{◌≡◌, ◌↔◌, ℕ, ◌<◌, ◌≤◌, inl, inr, List, length, get_or, Ok, Err, Some, Result, slice_get, nat_cmp, sym, ap, ◌∙◌, arith}
use Rattle.std.specs.Prelude.{AllPairs, Contains, MatchResult}
use Rattle.std.specs.List.Sorted.{IsBinarySearchResult}
use Rattle.std.specs.Result.{result_ok}
use Rattle.std.proofs.lemmas.Bool.{cases_eq, cases_lt}
use Rattle.std.proofs.lemmas.List.Sorted.{searched}
use Rattle.std.proofs.lemmas.Option.{get_or_from_slice_get, none-some, same_Some, slice_get-get_or, slice_get_within}

-- numbers that rise don't fall
rising : (xs : List ℕ) → AllPairs (λ i j. i < j) xs → (i j : ℕ) → i ≤ j → j < length xs → get_or xs i 0 ≤ get_or xs j 0
rising xs rise i j le less = elim (cases_eq i j) [
  | inl same ↦ omega (arith, ap (λ k. get_or xs k 0) same)
  | inr other ↦ omega (arith, rise i j 0 (omega (arith, le, other)) less)
]

module _ (xs : List ℕ) (rise : AllPairs (λ i j. i < j) xs) (x : ℕ) where
  one_place : (i n : ℕ) → i < length xs → n < length xs → get_or xs i 0 ≡ x → get_or xs n 0 ≡ x → i ≡ n
  one_place i n less low at also = elim (cases_lt i n) [
    | inl below ↦ absurd (omega (arith, rise i n 0 below low, at, also))
    | inr past ↦ elim (cases_eq i n) [
      | inl same ↦ same
      | inr other ↦ absurd (omega (arith, rise n i 0 (omega (arith, past, other)) less, at, also))
    ]
  ]

  read : (n : ℕ) → slice_get xs n ≡ Some x → (n < length xs) × (get_or xs n 0 ≡ x)
  read n is = (slice_get_within xs n x is, get_or_from_slice_get xs n x 0 is)

  number_from : (r : Result ℕ ℕ) → MatchResult r (λ i. (i < length xs) × (get_or xs i 0 ≡ x))
      (λ i. (i ≤ length xs) × ((k : ℕ) → k < i → get_or xs k 0 < x)
      × ((k : ℕ) → i ≤ k → k < length xs → x < get_or xs k 0)) →
      (n : ℕ) → (result_ok r ≡ Some n) ↔ (slice_get xs n ≡ Some x)
  number_from (Ok i) found n = (
    (λ is. ap (slice_get xs) (sym (same_Some i n is)) ∙ slice_get-get_or xs i 0 found.0 ∙ ap Some found.1),
    (λ is. ap Some (one_place i n found.0 (read n is).0 found.1 (read n is).1)),
  )
  number_from (Err i) none n = (
    (λ is. absurd (none-some n is)),
    (λ is. elim (cases_lt n i) [
      | inl below ↦ absurd (omega (arith, none.1 n below, (read n is).1))
      | inr past ↦ absurd (omega (arith, none.2 n past (read n is).0, (read n is).1))
    ]),
  )

  pub number_is : (r : Result ℕ ℕ) → IsBinarySearchResult (λ y. nat_cmp y x) xs r →
      (n : ℕ) → (result_ok r ≡ Some n) ↔ (slice_get xs n ≡ Some x)
  number_is r is = number_from r (searched xs x r is (rising xs rise))

-- a state that is entered has a number
pub has_number : (entered : List ℕ) (q : ℕ) → Contains entered q → (n : ℕ) × (slice_get entered n ≡ Some q)
has_number entered q (k, less, is) = (k, slice_get-get_or entered k q less ∙ ap Some is)
