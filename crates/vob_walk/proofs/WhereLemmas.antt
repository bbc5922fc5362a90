-- The numbers of a stretch that a test holds of.
use Rattle.std.specs.List.{list_any, range_with_len}
use Rattle.std.proofs.Common.{◌≡◌, ℕ, zero, suc, ◌+◌, ◌-◌, ◌<◌, ◌≤◌, Bool, true, false, cond, List}
use Rattle.std.proofs.Common.{[], ◌∷◌, ◌++◌, length, filter, All, Contains, refl, sym, ap, ◌∙◌, subst}
use Rattle.std.proofs.Common.{arith, inl, inr, append-nil, get_or}
use Rattle.std.proofs.lemmas.Bool.{cases_lt, false_from_ne_true, or_from}
use Rattle.std.proofs.lemmas.List.Elements.{filter-append, filter_passes, All-filter, All-contains, Contains-append_right}
use Rattle.std.proofs.lemmas.List.Folds.{list_any_at}
use Rattle.std.proofs.lemmas.List.Sums.{length-filter, count_by-le-length}
use Rattle.std.proofs.lemmas.List.FromFn.{length-range_with_len, get_or-range_with_len}
use Rattle.std.proofs.Common.{◌&&◌, nat_le, nat_lt}
use Rattle.std.proofs.lemmas.Bool.{and_from, and_parts, le-leb, lt-ltb, leb-true, ltb-true}
use Rattle.std.specs.Cmp.{both_ways}
use Rattle.vob_walk.specs.Cursor.{indices_where}

-- ---- a test between two numbers

pub between_from : (a b i : ℕ) {p : Bool} → a ≤ i → i < b → p ≡ true
    → (nat_le a i && nat_lt i b && p) ≡ true
between_from a b i {p} from below holds = and_from (nat_le a i && nat_lt i b) p
    (and_from (nat_le a i) (nat_lt i b) (le-leb a i from) (lt-ltb i b below)) holds

pub between_parts : (a b i : ℕ) (p : Bool) → (nat_le a i && nat_lt i b && p) ≡ true
    → (a ≤ i) × (i < b) × (p ≡ true)
between_parts a b i p h =
    let both = and_parts (nat_le a i && nat_lt i b) p h in
    let ends = and_parts (nat_le a i) (nat_lt i b) both.0 in
    (leb-true a i ends.0, ltb-true i b ends.1, both.1)

-- ---- the numbers of a stretch

pub range_with_len-split : (a n m : ℕ) → range_with_len a (n + m)
    ≡ range_with_len a n ++ range_with_len (a + n) m
range_with_len-split a zero m =
    let all : 0 + m ≡ m = omega arith in
    let here : a ≡ a + 0 = omega arith in
    ap (range_with_len a) all ∙ ap (λ k. range_with_len k m) here
range_with_len-split a (suc n) m =
    let more : suc n + m ≡ suc (n + m) = omega arith in
    let there : a + 1 + n ≡ a + suc n = omega arith in
    ap (range_with_len a) more ∙ ap (λ l. a ∷ l)
    (range_with_len-split (a + 1) n m ∙ ap
    (λ k. range_with_len (a + 1) n ++ range_with_len k m) there)

module _ (p : ℕ → Bool) where
  -- a stretch split at a number within it
  pub indices_where-split : (a n m : ℕ) → indices_where p a (n + m)
      ≡ indices_where p a n ++ indices_where p (a + n) m
  indices_where-split a n m = ap (filter p) (range_with_len-split a n m)
      ∙ filter-append p (range_with_len a n) (range_with_len (a + n) m)

  -- tests that agree there find the same
  pub indices_where-same : (q : ℕ → Bool) (a n : ℕ) → ((i : ℕ) → a ≤ i → i < a + n → p i ≡ q i)
      → indices_where p a n ≡ indices_where q a n
  indices_where-same q a zero h = refl
  indices_where-same q a (suc n) h =
      ap (λ b. cond b (a ∷ indices_where p (a + 1) n) (indices_where p (a + 1) n))
      (h a (omega arith) (omega arith))
      ∙ ap (λ l. cond (q a) (a ∷ l) l) (indices_where-same q (a + 1) n
      (λ i from to. h i (omega arith) (omega arith)))

  pub indices_where-nothing : (a n : ℕ) → ((i : ℕ) → a ≤ i → i < a + n → p i ≡ false)
      → indices_where p a n ≡ []
  indices_where-nothing a zero h = refl
  indices_where-nothing a (suc n) h =
      ap (λ b. cond b (a ∷ indices_where p (a + 1) n) (indices_where p (a + 1) n))
      (h a (omega arith) (omega arith))
      ∙ indices_where-nothing (a + 1) n (λ i from to. h i (omega arith) (omega arith))

  pub indices_where-all : (a n : ℕ) → ((i : ℕ) → a ≤ i → i < a + n → p i ≡ true)
      → indices_where p a n ≡ range_with_len a n
  indices_where-all a zero h = refl
  indices_where-all a (suc n) h =
      ap (λ b. cond b (a ∷ indices_where p (a + 1) n) (indices_where p (a + 1) n))
      (h a (omega arith) (omega arith))
      ∙ ap (λ l. a ∷ l) (indices_where-all (a + 1) n (λ i from to. h i (omega arith) (omega arith)))

  -- a part where nothing is found can be left out, at either end
  pub indices_where-skip : (a n m : ℕ) → ((i : ℕ) → a ≤ i → i < a + n → p i ≡ false)
      → indices_where p a (n + m) ≡ indices_where p (a + n) m
  indices_where-skip a n m none = indices_where-split a n m
      ∙ ap (λ l. l ++ indices_where p (a + n) m) (indices_where-nothing a n none)

  pub indices_where-stop : (a n m : ℕ) → ((i : ℕ) → a + n ≤ i → i < a + n + m → p i ≡ false)
      → indices_where p a (n + m) ≡ indices_where p a n
  indices_where-stop a n m none = indices_where-split a n m
      ∙ ap (λ l. indices_where p a n ++ l) (indices_where-nothing (a + n) m none)
      ∙ append-nil (indices_where p a n)

  indices_where-from_zero : (a n : ℕ) → ((i : ℕ) → p i ≡ true → a ≤ i) → indices_where p a n
      ≡ indices_where p 0 (a + n)
  indices_where-from_zero a n above =
      let here : a ≡ 0 + a = omega arith in
      ap (λ k. indices_where p k n) here ∙ sym
      (indices_where-skip 0 a n (λ i from to.
      false_from_ne_true (p i) (λ holds. absurd (omega (arith, above i holds)))))

  indices_where-up_to : (n m : ℕ) → n ≤ m → ((i : ℕ) → p i ≡ true → i < n) → indices_where p 0 m
      ≡ indices_where p 0 n
  indices_where-up_to n m h below =
      let whole : m ≡ n + (m - n) = omega arith in
      ap (indices_where p 0) whole ∙ indices_where-stop 0 n (m - n)
      (λ i from to. false_from_ne_true (p i) (λ holds. absurd (omega (arith, below i holds))))

  -- two stretches that have all that the test holds of have the same
  pub indices_where-both : (a n b m : ℕ) → ((i : ℕ) → p i ≡ true → (a ≤ i) × (i < a + n))
      → ((i : ℕ) → p i ≡ true → (b ≤ i) × (i < b + m)) → indices_where p a n ≡ indices_where p b m
  indices_where-both a n b m one other =
      let first = indices_where-from_zero a n (λ i holds. (one i holds).0) in
      let second = indices_where-from_zero b m (λ i holds. (other i holds).0) in
      let middle : indices_where p 0 (a + n) ≡ indices_where p 0 (b + m) =
      elim (cases_lt (a + n) (b + m)) [
        | inl less ↦ sym (indices_where-up_to (a + n) (b + m) (omega arith)
            (λ i holds. (one i holds).1))
        | inr more ↦ indices_where-up_to (b + m) (a + n) (omega arith)
            (λ i holds. (other i holds).1)
      ] in
      first ∙ middle ∙ sym second

  pub length-indices_all : (a n : ℕ) → ((i : ℕ) → a ≤ i → i < a + n → p i ≡ true)
      → length (indices_where p a n) ≡ n
  length-indices_all a n h = ap length (indices_where-all a n h) ∙ length-range_with_len a n

  pub length-indices_where-le : (a n : ℕ) → length (indices_where p a n) ≤ n
  length-indices_where-le a n = omega (
    arith,
    length-filter p (range_with_len a n),
    count_by-le-length p (range_with_len a n),
    length-range_with_len a n,
  )

  -- what is found is in the stretch, and the test holds of it
  pub indices_where-has : (a n i : ℕ) → a ≤ i → i < a + n → p i ≡ true
      → Contains (indices_where p a n) i
  indices_where-has a n i from to holds =
      let others = a + n - (i + 1) in
      let parts : n ≡ i - a + suc others = omega arith in
      let here : a + (i - a) ≡ i = omega arith in
      let whole : indices_where p a n
      ≡ indices_where p a (i - a) ++ i ∷ indices_where p (i + 1) others =
      ap (indices_where p a) parts ∙ indices_where-split a (i - a) (suc others)
      ∙ rw (here, holds) refl in
      subst (λ (l : List ℕ). Contains l i) (sym whole)
      (Contains-append_right (indices_where p a (i - a)) _ i (0, omega arith, refl))

  pub indices_where-only : (a n i : ℕ) → Contains (indices_where p a n) i → (a ≤ i) × (i < a + n)
      × (p i ≡ true)
  indices_where-only a n i h =
      let numbers = range_with_len a n in
      let long = length-range_with_len a n in
      let within : All (λ j. (a ≤ j) × (j < a + n)) numbers = λ k d inside.
      let there = get_or-range_with_len a n k d (omega arith) in
      (omega arith, omega arith) in
      let ends = All-contains (λ j. (a ≤ j) × (j < a + n)) (filter p numbers) i
      (All-filter p (λ j. (a ≤ j) × (j < a + n)) numbers within) h in
      (ends.0, ends.1, All-contains (λ j. p j ≡ true) (filter p numbers) i (filter_passes p numbers) h)

  -- ---- whether the test holds of some number there

  pub any-indices_where : (a n i : ℕ) → a ≤ i → i < a + n → p i ≡ true
      → list_any p (range_with_len a n) ≡ true
  any-indices_where a n i from to holds =
      let long = length-range_with_len a n in
      let there : get_or (range_with_len a n) (i - a) 0 ≡ i =
      get_or-range_with_len a n (i - a) 0 (omega arith) ∙ omega arith in
      list_any_at p (range_with_len a n) (i - a) 0 (omega arith) (ap p there ∙ holds)

  pub any-nothing : (a n : ℕ) → ((i : ℕ) → a ≤ i → i < a + n → p i ≡ false)
      → list_any p (range_with_len a n) ≡ false
  any-nothing a zero h = refl
  any-nothing a (suc n) h = or_from (p a) (list_any p (range_with_len (a + 1) n))
      (h a (omega arith) (omega arith)) (any-nothing (a + 1) n
      (λ i from to. h i (omega arith) (omega arith)))

-- what a test holds of in one stretch is found in another that has all of it
indices_where-moved : (p : ℕ → Bool) (a n b m : ℕ)
    → ((i : ℕ) → a ≤ i → i < a + n → p i ≡ true → (b ≤ i) × (i < b + m))
    → indices_where p a n ≡ indices_where (λ i. nat_le a i && nat_lt i (a + n) && p i) b m
indices_where-moved p a n b m there =
    let r = λ (i : ℕ). nat_le a i && nat_lt i (a + n) && p i in
    let parts = λ (i : ℕ) (h : r i ≡ true). between_parts a (a + n) i (p i) h in
    indices_where-same p r a n (λ i from below.
    both_ways (p i) (r i) (between_from a (a + n) i from below) (λ h. (parts i h).2))
    ∙ indices_where-both r a n b m (λ i h. ((parts i h).0, (parts i h).1))
    (λ i h. let own = parts i h in there i own.0 own.1 own.2)

pub length-indices_within : (p : ℕ → Bool) (a n b m : ℕ)
    → ((i : ℕ) → a ≤ i → i < a + n → p i ≡ true → (b ≤ i) × (i < b + m))
    → length (indices_where p a n) ≤ m
length-indices_within p a n b m there = omega (
  arith,
  ap length (indices_where-moved p a n b m there),
  length-indices_where-le (λ i. nat_le a i && nat_lt i (a + n) && p i) b m,
)

-- two tests find the same where each number is in both stretches, and both hold of it
pub indices_where-alike : (p q : ℕ → Bool) (a n b m : ℕ)
    → ((i : ℕ) → a ≤ i → i < a + n → p i ≡ true → (b ≤ i) × (i < b + m) × (q i ≡ true))
    → ((i : ℕ) → b ≤ i → i < b + m → q i ≡ true → (a ≤ i) × (i < a + n) × (p i ≡ true))
    → indices_where p a n ≡ indices_where q b m
indices_where-alike p q a n b m there back =
    indices_where-moved p a n b m (λ i from below h.
    let other = there i from below h in (other.0, other.1))
    ∙ indices_where-same (λ i. nat_le a i && nat_lt i (a + n) && p i) q b m (λ i from below.
    both_ways _ (q i)
    (λ h. let own = between_parts a (a + n) i (p i) h in (there i own.0 own.1 own.2).2)
    (λ h. let own = back i from below h in between_from a (a + n) i own.0 own.1 own.2))

-- where nothing is found the test holds nowhere
pub nothing_there : (p : ℕ → Bool) (a n : ℕ) → indices_where p a n ≡ [] → (i : ℕ) → a ≤ i
    → i < a + n → p i ≡ false
nothing_there p a n none i low high = false_from_ne_true (p i) (λ holds.
    let there = rw none at (indices_where-has p a n i low high holds) in
    absurd (omega (arith, there.1)))
