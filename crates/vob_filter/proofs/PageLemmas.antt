-- The kept rows from the k-th on, as those from its number on.
use Rattle.std.specs.Prelude.{filter, nat_le}
use Rattle.std.specs.List.{range_with_len}
use Rattle.std.specs.declared.ops.Bound.TheVariants.{Included, Unbounded}
use Rattle.std.proofs.Common.{◌≡◌, ℕ, zero, suc, ◌+◌, ◌-◌, ◌<◌, ◌≤◌, Bool, true, false, ◌&&◌, cond}
use Rattle.std.proofs.Common.{List, [], ◌∷◌, ◌++◌, length, take, drop, reverse, count_by, refl, sym, ap, ◌∙◌, arith, inl, inr}
use Rattle.std.proofs.lemmas.Bool.{cases_lt, lt-leb, le-leb}
use Rattle.std.proofs.lemmas.List.{drop_all, length-take-le, get_or-take, length-drop, length-reverse, reverse-append, take-append-drop}
use Rattle.std.proofs.lemmas.List.Sums.{count_by_more_yes, sum_by-cons}
use Rattle.std.proofs.Math.Seq.{drop-append_seam, drop-nil, take-nil}
use Rattle.vob_block.specs.Packing.{item}
use Rattle.vob_walk.specs.Matches.{has_value, matches}
use Rattle.vob_walk.proofs.IndexLemmas.{matches-count}
use Rattle.vob.specs.Bits.{count_of}
use Rattle.vob.specs.Sets.{IsOfRank}
use Rattle.vob.proofs.SetsLemmas.{counted}
use Rattle.vob_block.proofs.PackingLemmas.{true_inside}

-- a filter of numbers from `first` on leaves out those that pass below it
module _ (f : ℕ → Bool) (first : ℕ) where
  all_from : (a n : ℕ) → first ≤ a
      → filter (λ i. (nat_le first i && true) && f i) (range_with_len a n) ≡ filter f
      (range_with_len a n)
  all_from a zero past = refl
  all_from a (suc n) past =
      ap (λ b. cond ((b && true) && f a) (a ∷ filter (λ i. (nat_le first i && true) && f i)
      (range_with_len (a + 1) n))
      (filter (λ i. (nat_le first i && true) && f i) (range_with_len (a + 1) n)))
      (le-leb first a past)
      ∙ ap (λ xs. cond (f a) (a ∷ xs) xs) (all_from (a + 1) n (omega arith))

  pub filter-from : (a n : ℕ) → filter (λ i. (nat_le first i && true) && f i) (range_with_len a n)
      ≡ drop (count_by f (range_with_len a (first - a))) (filter f (range_with_len a n))
  filter-from a zero = sym (drop-nil (count_by f (range_with_len a (first - a))))
  filter-from a (suc n) = elim (cases_lt a first) [
    | inl less ↦
        let rest = range_with_len (a + 1) n in
        let count = count_by f (range_with_len (a + 1) (first - (a + 1))) in
        let more : first - a ≡ suc (first - (a + 1)) = omega arith in
        ap (λ b. cond ((b && true) && f a) (a ∷ filter (λ i. (nat_le first i && true) && f i) rest)
        (filter (λ i. (nat_le first i && true) && f i) rest)) (lt-leb first a less)
        ∙ filter-from (a + 1) n
        ∙ drop_head (f a) count (filter f rest)
        ∙ sym (ap (λ k. drop (count_by f (range_with_len a k))
        (filter f (range_with_len a (suc n)))) more
        ∙ ap (λ k. drop k (filter f (range_with_len a (suc n))))
        (sum_by-cons (λ i. cond (f i) 1 0) a (range_with_len (a + 1) (first - (a + 1)))))
    | inr past ↦
        let none : first - a ≡ 0 = omega arith in
        all_from a (suc n) past
        ∙ sym (ap (λ k. drop (count_by f (range_with_len a k))
        (filter f (range_with_len a (suc n)))) none)
  ]
    where
      drop_head : (b : Bool) (k : ℕ) (xs : List ℕ) → drop k xs ≡ drop (cond b 1 0 + k)
          (cond b (a ∷ xs) xs)
      drop_head true k xs =
          let one : 1 + k ≡ suc k = omega arith in sym (ap (λ n. drop n (a ∷ xs)) one)
      drop_head false k xs =
          let none : 0 + k ≡ k = omega arith in sym (ap (λ n. drop n xs) none)

-- the set bits from the k-th on
pub matches-from : (bits : List Bool) (k first : ℕ) → IsOfRank bits k first
    → matches bits true (Included first) Unbounded ≡ drop k (matches bits true Unbounded Unbounded)
unfolding matches
matches-from bits k first rank =
    let low : first < length bits = true_inside bits first rank.there in
    let long : length (take first bits) ≡ first = length-take-le first bits (omega arith) in
    let from : first - 0 ≡ first = omega arith in
    let below = counted (item bits) 0 (take first bits) first (omega arith)
    (λ i less. let same : 0 + i ≡ i = omega arith in
    ap (item bits) same ∙ sym (get_or-take first bits i false less)) in
    filter-from (item bits) first 0 (length bits)
    ∙ ap (λ n. drop (count_by (item bits) (range_with_len 0 n))
    (filter (item bits) (range_with_len 0 (length bits)))) from
    ∙ ap (λ n. drop n (filter (item bits) (range_with_len 0 (length bits)))) (below ∙ rank.below)

-- and none where there are no more than k
pub matches-past : (bits : List Bool) (k : ℕ) → count_of true bits ≤ k
    → drop k (matches bits true Unbounded Unbounded) ≡ []
matches-past bits k few =
    drop_all k (matches bits true Unbounded Unbounded) (omega (arith, matches-count bits true))

-- ---- from the end

module _ (f : ℕ → Bool) (last : ℕ) where
  none_past : (a n : ℕ) → last < a → filter (λ i. nat_le i last && f i) (range_with_len a n) ≡ []
  none_past a zero past = refl
  none_past a (suc n) past =
      ap (λ b. cond (b && f a) (a ∷ filter (λ i. nat_le i last && f i) (range_with_len (a + 1) n))
      (filter (λ i. nat_le i last && f i) (range_with_len (a + 1) n))) (lt-leb a last past)
      ∙ none_past (a + 1) n (omega arith)

  -- a filter of numbers up to `last` gives the first of those that pass
  filter-up_to : (a n : ℕ) → filter (λ i. nat_le i last && f i) (range_with_len a n)
      ≡ take (count_by f (range_with_len a (last + 1 - a))) (filter f (range_with_len a n))
  filter-up_to a zero = sym (take-nil (count_by f (range_with_len a (last + 1 - a))))
  filter-up_to a (suc n) = elim (cases_lt last a) [
    | inl past ↦
        let none : last + 1 - a ≡ 0 = omega arith in
        none_past a (suc n) past
        ∙ sym (ap (λ k. take (count_by f (range_with_len a k))
        (filter f (range_with_len a (suc n)))) none)
    | inr less ↦
        let rest = range_with_len (a + 1) n in
        let count = count_by f (range_with_len (a + 1) (last + 1 - (a + 1))) in
        let more : last + 1 - a ≡ suc (last + 1 - (a + 1)) = omega arith in
        ap (λ b. cond (b && f a) (a ∷ filter (λ i. nat_le i last && f i) rest)
        (filter (λ i. nat_le i last && f i) rest)) (le-leb a last less)
        ∙ ap (λ xs. cond (f a) (a ∷ xs) xs) (filter-up_to (a + 1) n)
        ∙ take_head (f a) count (filter f rest)
        ∙ sym (ap (λ k. take (count_by f (range_with_len a k))
        (filter f (range_with_len a (suc n)))) more
        ∙ ap (λ k. take k (filter f (range_with_len a (suc n))))
        (sum_by-cons (λ i. cond (f i) 1 0) a (range_with_len (a + 1) (last + 1 - (a + 1)))))
  ]
    where
      take_head : (b : Bool) (k : ℕ) (xs : List ℕ)
          → cond b (a ∷ take k xs) (take k xs) ≡ take (cond b 1 0 + k) (cond b (a ∷ xs) xs)
      take_head true k xs =
          let one : 1 + k ≡ suc k = omega arith in sym (ap (λ n. take n (a ∷ xs)) one)
      take_head false k xs =
          let none : 0 + k ≡ k = omega arith in sym (ap (λ n. take n xs) none)

-- the set bits up to the k-th
matches-up_to : (bits : List Bool) (k last : ℕ) → IsOfRank bits k last
    → matches bits true Unbounded (Included last) ≡ take (k + 1)
    (matches bits true Unbounded Unbounded)
unfolding matches
matches-up_to bits k last rank =
    let low : last < length bits = true_inside bits last rank.there in
    let long : length (take (last + 1) bits) ≡ last + 1 = length-take-le (last + 1) bits
    (omega arith) in
    let from : last + 1 - 0 ≡ last + 1 = omega arith in
    let below = counted (item bits) 0 (take (last + 1) bits) (last + 1) (omega arith)
    (λ i less. let same : 0 + i ≡ i = omega arith in
    ap (item bits) same ∙ sym (get_or-take (last + 1) bits i false less)) in
    let one = count_by_more_yes (has_value true) bits last false low rank.there in
    filter-up_to (item bits) last 0 (length bits)
    ∙ ap (λ n. take (count_by (item bits) (range_with_len 0 n))
    (filter (item bits) (range_with_len 0 (length bits)))) from
    ∙ ap (λ n. take n (filter (item bits) (range_with_len 0 (length bits))))
    (below ∙ one ∙ ap (λ n. n + 1) rank.below)

reverse-take : (xs : List ℕ) (m n : ℕ) → m + n ≡ length xs → reverse (take m xs) ≡ drop n
    (reverse xs)
reverse-take xs m n parts =
    let behind : length (reverse (drop m xs)) ≡ n =
    omega (arith, length-reverse (drop m xs), length-drop m xs) in
    sym (ap (λ ys. drop n (reverse ys)) (sym (take-append-drop m xs))
    ∙ ap (drop n) (reverse-append (take m xs) (drop m xs))
    ∙ ap (λ k. drop k (reverse (drop m xs) ++ reverse (take m xs))) (sym behind)
    ∙ drop-append_seam (reverse (drop m xs)) (reverse (take m xs)))

-- from the last row back, after the last `skip` ones
pub matches-back : (bits : List Bool) (skip k last : ℕ) → k + 1 + skip ≡ count_of true bits
    → IsOfRank bits k last → reverse (matches bits true Unbounded (Included last))
    ≡ drop skip (reverse (matches bits true Unbounded Unbounded))
matches-back bits skip k last parts rank =
    ap reverse (matches-up_to bits k last rank)
    ∙ reverse-take (matches bits true Unbounded Unbounded) (k + 1) skip
    (omega (arith, parts, matches-count bits true))

pub matches-back_past : (bits : List Bool) (skip : ℕ) → count_of true bits ≤ skip
    → drop skip (reverse (matches bits true Unbounded Unbounded)) ≡ []
matches-back_past bits skip few =
    drop_all skip (reverse (matches bits true Unbounded Unbounded))
    (omega (arith, length-reverse (matches bits true Unbounded Unbounded), matches-count bits true))
