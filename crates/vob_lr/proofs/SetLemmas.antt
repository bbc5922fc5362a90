-- Lists of numbers that rise: which are equal, and where a number stands.
use Rattle.std.proofs.Common.{◌≡◌, ◌==◌, ◌↔◌, ◌⊎◌, ℕ, zero, suc, ◌<◌, ◌≤◌, inl, inr, List, [], ◌∷◌, ◌++◌, length, get_or, Err, Ok, Some, nat_cmp, refl, sym, ap, ◌∙◌, arith, eq-eqb, eqb-true}
use Rattle.std.specs.List.{AllPairs, Contains}
use Rattle.std.specs.List.Sorted.{IsBinarySearchResult}
use Rattle.std.proofs.lemmas.Bool.{cases_lt, false≢true, ne_eqb}
use Rattle.std.proofs.lemmas.List.{get_or_append_left, get_or_past, length-append}
use Rattle.std.proofs.lemmas.List.Sorted.{searched}
use Rattle.std.proofs.lemmas.List.Sums.{fails_before_first, passes_at_first, position_or_len_is}
use Rattle.std.proofs.lemmas.Option.{get_or_from_slice_get, slice_get-get_or}
use Rattle.vob_lr.specs.ItemSets.{HasItem}
use Rattle.vob_lr.specs.Nodes.{place_of}
use Rattle.vob_lr.specs.Those.{AreThose}

none_there : (n : ℕ) → ¬ Contains [] n
none_there n h = omega (arith, h.1)

-- ---- one number before the others

module _ (x : ℕ) (xs : List ℕ) where
  head_or : (n : ℕ) → Contains (x ∷ xs) n → (x ≡ n) ⊎ Contains xs n
  head_or n (zero, less, is) = inl is
  head_or n (suc k, less, is) = inr (k, omega (arith, less), is)

  at_head : Contains (x ∷ xs) x
  at_head = (0, omega arith, refl)

  behind : (n : ℕ) → Contains xs n → Contains (x ∷ xs) n
  behind n (k, less, is) = (suc k, omega (arith, less), is)

  module _ (rise : AllPairs (λ i j. i < j) (x ∷ xs)) where
    head_least : (n : ℕ) → Contains xs n → x < n
    head_least n (k, less, is) =
        let low : x < get_or xs k n = rise 0 (suc k) n (omega arith) (omega (arith, less)) in
        omega (arith, low, is)

    tail_rises : AllPairs (λ i j. i < j) xs
    tail_rises = λ i j d less low. rise (suc i) (suc j) d (omega (arith, less)) (omega (arith, low))

-- lists that rise and have the same numbers are equal
pub same_rising : (xs ys : List ℕ) → AllPairs (λ i j. i < j) xs → AllPairs (λ i j. i < j) ys →
    ((n : ℕ) → Contains xs n ↔ Contains ys n) → xs ≡ ys
same_rising [] [] up other same = refl
same_rising [] (y ∷ ys) up other same = absurd (none_there y ((same y).1 (at_head y ys)))
same_rising (x ∷ xs) [] up other same = absurd (none_there x ((same x).0 (at_head x xs)))
same_rising (x ∷ xs) (y ∷ ys) up other same =
    let heads : x ≡ y = elim (head_or y ys x ((same x).0 (at_head x xs))) [
      | inl is ↦ sym is
      | inr past ↦ elim (head_or x xs y ((same y).1 (at_head y ys))) [
        | inl is ↦ is
        | inr over ↦ absurd (omega (arith, head_least y ys other x past, head_least x xs up y over))
      ]
    ] in
    let tails = same_rising xs ys (tail_rises x xs up) (tail_rises y ys other) (λ n. (
      (λ there. elim (head_or y ys n ((same n).0 (behind x xs n there))) [
        | inl is ↦ absurd (omega (arith, head_least x xs up n there, heads, is))
        | inr past ↦ past
      ]),
      (λ there. elim (head_or x xs n ((same n).1 (behind y ys n there))) [
        | inl is ↦ absurd (omega (arith, head_least y ys other n there, heads, is))
        | inr past ↦ past
      ]),
    )) in
    ap (λ (z : ℕ). z ∷ xs) heads ∙ ap (λ (zs : List ℕ). y ∷ zs) tails

pub same_those : (P : ℕ → Type 0) (xs ys : List ℕ) → AreThose P xs → AreThose P ys → xs ≡ ys
same_those P xs ys h g =
    same_rising xs ys h.rise g.rise (λ n. (
      (λ there. (g.each n).1 ((h.each n).0 there)),
      (λ there. (h.each n).1 ((g.each n).0 there)),
    ))

-- ---- where a number stands

module _ (list : List ℕ) (n : ℕ) (there : Contains list n) where
  pub place_inside : place_of list n < length list
  place_inside = elim (cases_lt (place_of list n) (length list)) [
    | inl low ↦ low
    | inr past ↦
        let (k, less, is) = there in
        absurd (false≢true (sym (fails_before_first (λ m. m == n) list k n (omega (arith, less, past)))
        ∙ eq-eqb (get_or list k n) n is))
  ]

  pub place_at : (d : ℕ) → get_or list (place_of list n) d ≡ n
  place_at d =
      eqb-true (get_or list (place_of list n) d) n (passes_at_first (λ m. m == n) list d place_inside)

-- and behind all, if it isn't there
pub place_past : (list : List ℕ) (n : ℕ) → (¬ Contains list n) → length list ≤ place_of list n
place_past list n none = elim (cases_lt (place_of list n) (length list)) [
  | inl low ↦
      absurd (none (
        place_of list n,
        low,
        eqb-true (get_or list (place_of list n) n) n
            (passes_at_first (λ m. m == n) list n low),
      ))
  | inr past ↦ past
]

-- more numbers behind it don't move it
pub place_append : (list more : List ℕ) (n : ℕ) → place_of list n < length list →
    place_of (list ++ more) n ≡ place_of list n
place_append list more n low =
    let p = place_of list n in
    position_or_len_is (λ m. m == n) (list ++ more) p 0 (omega (arith, low, length-append list more))
    (λ k less.
    let inside : k < length list = omega (arith, less, low) in
    ap (λ m. m == n) (get_or_append_left list more 0 k inside)
    ∙ fails_before_first (λ m. m == n) list k 0 less)
    (λ within.
    ap (λ m. m == n) (get_or_append_left list more 0 p low) ∙ passes_at_first (λ m. m == n) list 0 low)

-- in a list that rises it stands nowhere else
pub place_is : (list : List ℕ) (n k : ℕ) → AllPairs (λ i j. i < j) list → k < length list →
    get_or list k 0 ≡ n → k ≡ place_of list n
place_is list n k rise less at =
    sym (position_or_len_is (λ m. m == n) list k 0 (omega (arith, less))
    (λ j low. ne_eqb (get_or list j 0) n (λ same. omega (arith, rise j k 0 low less, at, same)))
    (λ low. eq-eqb (get_or list k 0) n at))

-- a search by halves finds it, if it is there
module _ (list : List ℕ) (n : ℕ) (rise : AllPairs (λ i j. i < j) list) where
  no_less : (i j : ℕ) → i ≤ j → j < length list → get_or list i 0 ≤ get_or list j 0
  no_less i j le low = elim (cases_lt i j) [
    | inl less ↦ omega (arith, rise i j 0 less low)
    | inr past ↦
        let same : i ≡ j = omega (arith, le, past) in
        omega (arith, ap (λ k. get_or list k 0) same)
  ]

  pub found_at : (i : ℕ) → IsBinarySearchResult (λ m. nat_cmp m n) list (Ok i) →
      Contains list n × (i ≡ place_of list n)
  found_at i h =
      let (less, at) = searched list n (Ok i) h no_less in (
        (i, less, get_or_from_slice_get list i n n (slice_get-get_or list i 0 less ∙ ap Some at)),
        place_is list n i rise less at,
      )

  pub found_nowhere : (i : ℕ) → IsBinarySearchResult (λ m. nat_cmp m n) list (Err i) → ¬ Contains list n
  found_nowhere i h (k, less, is) =
      let (inside, below, above) = searched list n (Err i) h no_less in
      let at = get_or_from_slice_get list k n 0 (slice_get-get_or list k n less ∙ ap Some is) in
      elim (cases_lt k i) [
        | inl low ↦ omega (arith, below k low, at)
        | inr past ↦ omega (arith, above k past less, at)
      ]

-- a set with an item is there
pub set_inside : (sets : List (List ℕ)) (q i : ℕ) → HasItem sets q i → q < length sets
set_inside sets q i (k, less, is) = elim (cases_lt q (length sets)) [
  | inl low ↦ low
  | inr past ↦ absurd (omega (arith, less, ap length (get_or_past sets q [] past)))
]
