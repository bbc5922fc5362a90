-- A block in hand, and its first or last index taken.
use Rattle.std.specs.List.{range_with_len}
use Rattle.std.proofs.Common.{◌≡◌, ◌≢◌, ℕ, zero, suc, ◌+◌, ◌-◌, ◌^◌, ◌<◌, ◌≤◌, Bool, true, false}
use Rattle.std.proofs.Common.{cond, List, [], ◌∷◌, ◌++◌, length, ◌↔◌, eqb, refl, sym, ap, ◌∙◌}
use Rattle.std.proofs.Common.{arith, inl, inr, append-nil}
use Rattle.std.proofs.lemmas.Bool.{cases_eq, cases_lt, false≢true, eq-eqb, eqb-true, ne_eqb, cond-true, cond-false}
use Rattle.std.proofs.lemmas.List.Sums.{length-filter}
use Rattle.std.proofs.lemmas.Nat.{pow_pos}
use Rattle.vob_block.specs.Places.{place, HasPlaces, HasZerosLow, HasZerosHigh, true_places}
use Rattle.vob_block.specs.Pointwise.{differ}
use Rattle.vob_block.proofs.PlaceLemmas.{place-ones, place-pow, place-zero, same_from_places}
use Rattle.vob_walk.specs.Cursor.{indices_where, block_indices}
use Rattle.vob_walk.specs.InHand.{IsBlockBits}
use Rattle.vob_walk.proofs.WhereLemmas.{indices_where-split, indices_where-same, indices_where-nothing, nothing_there}

-- ---- a test that one number is taken off

-- q is p without k, which p holds of
record Lacks (p q : ℕ → Bool) (k : ℕ) (a n : ℕ) : Type 0 where
  at : p k ≡ true
  gone : q k ≡ false
  other : (i : ℕ) → a ≤ i → i < a + n → i ≢ k → q i ≡ p i
  low : a ≤ k
  high : k < a + n

module _ (p q : ℕ → Bool) (k a n : ℕ) (h : Lacks p q k a n) where
  split : (r : ℕ → Bool) → indices_where r a n
      ≡ indices_where r a (k - a) ++ indices_where r k (suc (a + n - (k + 1)))
  split r =
      let all : n ≡ k - a + suc (a + n - (k + 1)) = omega arith in
      let here : a + (k - a) ≡ k = omega arith in
      ap (indices_where r a) all ∙ indices_where-split r a (k - a) (suc (a + n - (k + 1)))
      ∙ ap (λ i. indices_where r a (k - a) ++ indices_where r i (suc (a + n - (k + 1)))) here

  with_it : indices_where p a n ≡ indices_where p a (k - a) ++ k ∷ indices_where p (k + 1)
      (a + n - (k + 1))
  with_it = split p ∙ ap (λ xs. indices_where p a (k - a) ++ xs)
      (cond-true (p k) _ (indices_where p (k + 1) (a + n - (k + 1))) h.at)

  without_it : indices_where q a n ≡ indices_where p a (k - a) ++ indices_where p (k + 1)
      (a + n - (k + 1))
  without_it =
      split q ∙ ap (λ xs. indices_where q a (k - a) ++ xs)
      (cond-false (q k) _ (indices_where q (k + 1) (a + n - (k + 1))) h.gone)
      ∙ rw (
        indices_where-same q p a (k - a) (λ i low high.
            h.other i low (omega arith) (λ e. absurd (omega arith))),
        indices_where-same q p (k + 1) (a + n - (k + 1)) (λ i low high.
            h.other i (omega arith) (omega arith) (λ e. absurd (omega arith))),
      ) refl

  -- the first that p holds of
  indices_where-first : ((i : ℕ) → a ≤ i → i < k → p i ≡ false) → indices_where p a n
      ≡ k ∷ indices_where q a n
  indices_where-first none =
      let empty = indices_where-nothing p a (k - a) (λ i low high. none i low (omega arith)) in
      rw (with_it, without_it, empty) refl

  -- and the last
  indices_where-last : ((i : ℕ) → k < i → i < a + n → p i ≡ false) → indices_where p a n
      ≡ indices_where q a n ++ k ∷ []
  indices_where-last none =
      let empty = indices_where-nothing p (k + 1) (a + n - (k + 1))
      (λ i low high. none i (omega arith) (omega arith)) in
      rw (with_it, without_it, empty, append-nil) refl

-- ---- a block in hand

-- no place is true
block_indices-none : (w at x : ℕ) → ((j : ℕ) → j < w → place j x ≡ false)
    → block_indices w at x ≡ []
unfolding block_indices
block_indices-none w at x none = indices_where-nothing (λ i. place (i - at) x) at w
    (λ i low high. none (i - at) (omega arith))

zeros_above : (w x n : ℕ) → HasZerosHigh w x n → (j : ℕ) → w - n ≤ j → j < w → place j x ≡ false
zeros_above w x n h j low high =
    let back : w - 1 - (w - 1 - j) ≡ j = omega arith in
    ap (λ i. place i x) (sym back) ∙ h.zeros (w - 1 - j) (omega arith)

-- where an index is left there is a first true place, and a last one
pub first_there : (w at x n : ℕ) → HasZerosLow w x n → block_indices w at x ≢ [] → (n < w)
    × (place n x ≡ true)
first_there w at x n h some = elim (cases_lt n w) [
  | inl inside ↦ (inside, h.first inside)
  | inr all ↦ absurd (some (block_indices-none w at x (λ j k. h.zeros j (omega arith))))
]

-- (u is the width as the code read it)
pub last_there : (w u at x n : ℕ) → u ≡ w → HasZerosHigh w x n → block_indices w at x ≢ []
    → (n ≤ u - 1) × (u - 1 - n < w) × (place (u - 1 - n) x ≡ true)
last_there w u at x n e h some = elim (cases_lt n w) [
  | inl inside ↦ (omega arith, omega arith, ap (λ m. place (m - 1 - n) x) e ∙ h.last inside)
  | inr all ↦ absurd (some (block_indices-none w at x
      (λ j k. zeros_above w x n h j (omega arith) k)))
]

-- the block 0 holds nothing, and no other block does
pub block_indices-zero : (w at x : ℕ) → x ≡ 0 → block_indices w at x ≡ []
block_indices-zero w at x e = block_indices-none w at x (λ j h. ap (place j) e ∙ place-zero j)

zero_block_indices : (w at x : ℕ) → x < 2 ^ w → block_indices w at x ≡ [] → x ≡ 0
unfolding block_indices
zero_block_indices w at x within e = same_from_places w x 0 within (pow_pos w) (λ j h.
    let back : at + j - at ≡ j = omega arith in
    ap (λ i. place i x) (sym back) ∙ nothing_there (λ i. place (i - at) x) at w e (at + j)
    (omega arith) (omega arith) ∙ sym (place-zero j))

-- behind a block whose places are all true there is a length still
pub full-below : {w at x : ℕ} → 0 < w → x ≡ 2 ^ w - 1 → IsBlockBits w at x → at + w < 2 ^ 64
full-below {w} {at} {x} wide full h =
    let last : w - 1 < w = omega arith in
    omega (arith, h.fits (w - 1) last (ap (place (w - 1)) full ∙ place-ones w (w - 1) last))

-- a block is 0 by a test exactly where it has no index
pub empty_test : (w at x : ℕ) (answer : Bool) → (answer ≡ true) ↔ (x ≡ 0) → x < 2 ^ w
    → (answer ≡ true) ↔ (block_indices w at x ≡ [])
empty_test w at x answer test within = (
  (λ yes. block_indices-zero w at x (test.0 yes)),
  (λ none. test.1 (zero_block_indices w at x within none)),
)

pub some_index : (w at x : ℕ) (answer : Bool) → (answer ≡ true) ↔ (x ≡ 0) → x < 2 ^ w → answer
    ≡ false → block_indices w at x ≢ []
some_index w at x answer test within differs none =
    false≢true (sym differs ∙ (empty_test w at x answer test within).1 none)

-- ---- how many indices are left

length-cond_cons : (b : Bool) (x : ℕ) (xs : List ℕ) → length (cond b (x ∷ xs) xs)
    ≡ cond b 1 0 + length xs
length-cond_cons true x xs = omega arith
length-cond_cons false x xs = omega arith

-- a test of places is found as often where the places begin at another number
length-indices_at : (p : ℕ → Bool) (at a b n : ℕ) → a ≡ at + b
    → length (indices_where (λ i. p (i - at)) a n) ≡ length (indices_where p b n)
length-indices_at p at a b zero e = refl
length-indices_at p at a b (suc n) e =
    let back : a - at ≡ b = omega arith in
    length-cond_cons (p (a - at)) a (indices_where (λ i. p (i - at)) (a + 1) n)
    ∙ ap (λ i. cond (p i) 1 0 + length (indices_where (λ i. p (i - at)) (a + 1) n)) back
    ∙ ap (λ m. cond (p b) 1 0 + m) (length-indices_at p at (a + 1) (b + 1) n (omega arith))
    ∙ sym (length-cond_cons (p b) b (indices_where p (b + 1) n))

-- as many as there are true places
pub length-block_indices : (w at x : ℕ) → length (block_indices w at x) ≡ true_places w x
unfolding block_indices true_places
length-block_indices w at x = length-indices_at (λ j. place j x) at at 0 w (omega arith)
    ∙ length-filter (λ j. place j x) (range_with_len 0 w)

-- where some of a list are left there is one, and where the first is taken one less is
pub some_left : {xs : List ℕ} {left : ℕ} → left ≡ length xs → 0 < left → xs ≢ []
some_left count some none = absurd (omega (arith, count ∙ ap length none))

pub left-first : {xs ys : List ℕ} {left i : ℕ} → left ≡ length xs → xs ≡ i ∷ ys
    → left - 1 ≡ length ys
left-first count first = omega (arith, count ∙ ap length first)

-- ---- one place made false, by `^` with it alone

differ-cleared : (a b : Bool) → (b ≡ true → a ≡ true) → differ a b ≡ cond b false a
differ-cleared true true h = refl
differ-cleared true false h = refl
differ-cleared false true h = absurd (false≢true (h refl))
differ-cleared false false h = refl

pub HasPlaces-cleared : (w x y m j : ℕ) → place j x ≡ true → m ≡ 2 ^ j
    → HasPlaces w y (λ i. differ (place i x) (place i m))
    → HasPlaces w y (λ i. cond (eqb i j) false (place i x))
HasPlaces-cleared w x y m j there alone h = record {
  each = λ i k. h.each i k ∙ rw (alone, place-pow)
      (differ-cleared (place i x) (eqb i j) (λ e. ap (λ n. place n x) (eqb-true i j e) ∙ there));
}

-- y is x with the true place j made false
module _ (w at x y j : ℕ) (inside : j < w) (there : place j x ≡ true)
    (left : HasPlaces w y (λ i. cond (eqb i j) false (place i x))) where
  cleared : place j y ≡ false
  cleared = left.each j inside ∙ cond-true (eqb j j) false (place j x) (eq-eqb j j refl)

  kept : (i : ℕ) → i < w → i ≢ j → place i y ≡ place i x
  kept i h other = left.each i h ∙ cond-false (eqb i j) false (place i x) (ne_eqb i j other)

  lacks : Lacks (λ i. place (i - at) x) (λ i. place (i - at) y) (at + j) at w
  lacks =
      let back : at + j - at ≡ j = omega arith in
      record {
        at = ap (λ i. place i x) back ∙ there;
        gone = ap (λ i. place i y) back ∙ cleared;
        other = λ i low high apart. kept (i - at) (omega arith) (λ e. apart (omega arith));
        low = omega arith;
        high = omega arith;
      }

  -- what is left is a block in hand too
  pub IsBlockBits-cleared : y < 2 ^ w → IsBlockBits w at x → IsBlockBits w at y
  IsBlockBits-cleared within h = record {
    within = within;
    fits = λ i below still. elim (cases_eq i j) [
      | inl same ↦ absurd (false≢true (sym cleared ∙ ap (λ k. place k y) (sym same) ∙ still))
      | inr other ↦ h.fits i below (sym (kept i below other) ∙ still)
    ];
  }

  pub block_indices-first : HasZerosLow w x j → block_indices w at x
      ≡ (at + j) ∷ block_indices w at y
  unfolding block_indices
  block_indices-first h = indices_where-first _ _ (at + j) at w lacks
      (λ i low high. h.zeros (i - at) (omega arith))

  pub block_indices-last : (n : ℕ) → HasZerosHigh w x n → j ≡ w - 1 - n → block_indices w at x
      ≡ block_indices w at y ++ (at + j) ∷ []
  unfolding block_indices
  block_indices-last n h e = indices_where-last _ _ (at + j) at w lacks
      (λ i low high. zeros_above w x n h (i - at) (omega arith) (omega arith))
