-- A page for users: which indices a walk gives, in which order, and how many.
use Rattle.std.specs.Prelude.{AllPairs, Some}
use Rattle.std.specs.Iterator.Adapters.{rev_source, rev_steps}
use Rattle.std.specs.List.{range_with_len}
use Rattle.std.specs.declared.iter.Rev.{Rev}
use Rattle.std.specs.declared.ops.Bound.{Bound}
use Rattle.std.specs.declared.ops.Bound.TheVariants.{Included, Excluded, Unbounded}
use Rattle.std.proofs.Common.{◌≡◌, ◌≢◌, reverse, subst, ◌↔◌, ℕ, suc, ◌+◌, ◌-◌, ◌<◌, ◌≤◌, nat_eq, nat_le, nat_lt, eq-eqb, eqb-true, leb-true, ltb-true, Bool, true}
use Rattle.std.proofs.Common.{zero, false, not, ◌&&◌, ◌||◌, cond, IsTrue, List, [], ◌∷◌, ◌++◌, length, get_or}
use Rattle.std.proofs.Common.{count_by, Contains, refl, sym, ap, ◌∙◌, arith, inl, inr}
use Rattle.std.proofs.lemmas.Iterator.{YieldsList}
use Rattle.std.proofs.lemmas.Iterator.Consumers.{YieldsList-from_shown}
use Rattle.std.proofs.lemmas.Bool.{cases_eq, and_parts, or_left, or_right, false_from_ne_true, false≢true}
use Rattle.std.proofs.lemmas.List.{length-reverse, reverse-append}
use Rattle.std.proofs.lemmas.List.Elements.{All-head, All-tail, All-pop, All-contains, Contains-get_or}
use Rattle.std.proofs.lemmas.List.FromFn.{get_or-range_with_len, length-range_with_len}
use Rattle.std.proofs.lemmas.List.Kept.{AllPairs-filter}
use Rattle.std.proofs.lemmas.List.Sums.{length-filter, sum_by-cons}
use Rattle.vob_block.specs.Packing.{item}
use Rattle.vob_walk.specs.Matches.{from_start, up_to_end, within, has_value, matches}
use Rattle.vob_walk.specs.Left.{IsMatch, AreMatches, is_left}
use Rattle.vob_walk.specs.Walk.{Walk, IsFresh, GivesFirst, GivesLast}
use Rattle.vob_walk.proofs.WhereLemmas.{length-indices_within, between_parts}
use Rattle.vob_walk.proofs.MatchesLemmas.{matches-only, matches-has}

pub value_is : (value bit : Bool) → IsTrue (has_value value bit) → bit ≡ value
value_is true bit h = h
value_is false true h = absurd (false≢true h)
value_is false false h = refl

pub has_value-same : (value bit : Bool) → bit ≡ value → IsTrue (has_value value bit)
has_value-same true bit e = e
has_value-same false bit e = ap not e

-- ---- the first of a list that rises

first_least : (xs : List ℕ) → AllPairs (λ i j. i < j) xs → (i : ℕ) (rest : List ℕ) → xs ≡ i ∷ rest
    → (j : ℕ) → Contains xs j → i ≤ j
first_least xs rise i rest e j h =
    let first : get_or xs 0 j ≡ i = ap (λ ys. get_or ys 0 j) e in
    elim (cases_eq h.0 0) [
      | inl here ↦ omega (arith, ap (λ k. get_or xs k j) here)
      | inr later ↦
          let less = rise 0 h.0 j (omega arith) h.1 in omega arith
    ]

-- ---- how many bits have a value

count_at : (p : Bool → Bool) (f : ℕ → Bool) (a : ℕ) (bits : List Bool)
    → ((i : ℕ) → i < length bits → f (a + i) ≡ p (item bits i))
    → count_by f (range_with_len a (length bits)) ≡ count_by p bits
count_at p f a [] same = refl
count_at p f a (b ∷ bits) same =
    let here : a + 0 ≡ a = omega arith in
    let first : f a ≡ p b = ap f (sym here) ∙ same 0 (omega arith) in
    let rest = count_at p f (a + 1) bits (λ i inside.
    let next : a + 1 + i ≡ a + suc i = omega arith in
    ap f next ∙ same (suc i) (omega arith)) in
    sum_by-cons (λ i. cond (f i) 1 0) a (range_with_len (a + 1) (length bits))
    ∙ ap (λ v. cond v 1 0 + count_by f (range_with_len (a + 1) (length bits))) first
    ∙ ap (λ n. cond (p b) 1 0 + n) rest ∙ sym (sum_by-cons (λ v. cond (p v) 1 0) b bits)

pub matches-count : (bits : List Bool) (value : Bool)
    → length (matches bits value Unbounded Unbounded) ≡ count_by (has_value value) bits
unfolding matches
matches-count bits value =
    length-filter (λ i. has_value value (item bits i)) (range_with_len 0 (length bits))
    ∙ count_at (has_value value) (λ i. has_value value (item bits i)) 0 bits (λ i inside.
    let same : 0 + i ≡ i = omega arith in ap (λ k. has_value value (item bits k)) same)

rising : (a n : ℕ) → AllPairs (λ i j. i < j) (range_with_len a n)
rising a n i j d less inside =
    let long = length-range_with_len a n in
    omega (
      arith,
      get_or-range_with_len a n i d (omega (arith, less, inside, long)),
      get_or-range_with_len a n j d (omega (arith, inside, long)),
    )

module _ (bits : List Bool) (value : Bool) (low high : Bound ℕ) where
  -- an index is given where it is within the range, and its bit has the value
  pub matches-exactly : (i : ℕ) → Contains (matches bits value low high) i
      ↔ ((i < length bits) × IsTrue (within low high i) × (item bits i ≡ value))
  matches-exactly i = (
    (λ h.
        let there = matches-only bits low high value i h in
        (there.0, there.1, value_is value (item bits i) there.2)),
    (λ h. matches-has bits low high value i h.0 h.1
        (has_value-same value (item bits i) h.2)),
  )

  -- each index is above those before it
  pub matches-rise : AllPairs (λ i j. i < j) (matches bits value low high)
  unfolding matches
  matches-rise = AllPairs-filter (λ i j. i < j)
      (λ i. within low high i && has_value value (item bits i)) (range_with_len 0 (length bits))
      (rising 0 (length bits))

  -- the first index that is given is the least one
  pub matches-first : (i : ℕ) (rest : List ℕ) → matches bits value low high ≡ i ∷ rest
      → (i < length bits) × IsTrue (within low high i) × (item bits i ≡ value)
      × ((j : ℕ) → j < i → IsTrue (within low high j) → item bits j ≢ value)
  matches-first i rest e =
      let all = matches bits value low high in
      let there =
      (matches-exactly i).0 (0, omega (arith, ap length e), ap (λ xs. get_or xs 0 i) e) in (
        there.0,
        there.1,
        there.2,
        λ j less in_range equal.
            let least = first_least all matches-rise i rest e j
            ((matches-exactly j).1 (omega arith, in_range, equal)) in
            absurd (omega arith),
      )

  -- where none is given, no bit within the range has the value
  pub matches-none : matches bits value low high ≡ [] → (i : ℕ) → i < length bits
      → IsTrue (within low high i) → item bits i ≢ value
  matches-none e i inside in_range equal =
      let there = (matches-exactly i).1 (inside, in_range, equal) in
      omega (arith, ap length e)

-- the first index of a walk of which nothing was given yet
pub IsFresh-first : {walk after : Walk} {bits : List Bool} {value : Bool} {low high : Bound ℕ}
    {width i : ℕ} → IsFresh walk bits value low high width → GivesFirst walk (Some i) after
    → (i < length bits) × IsTrue (within low high i) × (item bits i ≡ value)
IsFresh-first {walk} {after} {bits} {value} {low} {high} {width} {i} fresh first =
    let least = matches-first bits value low high i after.rest (sym fresh.whole.rest ∙ first.gives) in
    (least.0, least.1, least.2)

-- ---- what a loop over a walk keeps of the indices that are left: `using` takes these by name

module _ (bits : List Bool) (value : Bool) (low high : Bound ℕ) where
  -- those of a walk of which nothing was given yet
  pub matches_all : AreMatches bits value low high (matches bits value low high)
  unfolding AreMatches
  matches_all = λ k d less. (matches-exactly bits value low high _).0 (Contains-get_or _ k d less)

  -- one index of them
  pub match_of : (indices : List ℕ) (i : ℕ) → AreMatches bits value low high indices
      → Contains indices i → IsMatch bits value low high i
  unfolding AreMatches
  match_of indices i all there = All-contains (IsMatch bits value low high) indices i all there

  module _ (i : ℕ) (rest : List ℕ) where
    -- the first is that of a bit, within the range, and its bit has the value
    pub first_inside : AreMatches bits value low high (i ∷ rest) → i < length bits
    unfolding AreMatches
    first_inside all = (All-head (IsMatch bits value low high) i rest all).0

    pub first_within : AreMatches bits value low high (i ∷ rest) → IsTrue (within low high i)
    unfolding AreMatches
    first_within all = (All-head (IsMatch bits value low high) i rest all).1

    pub first_value : AreMatches bits value low high (i ∷ rest) → item bits i ≡ value
    unfolding AreMatches
    first_value all = (All-head (IsMatch bits value low high) i rest all).2

    -- those behind it
    pub matches_after : AreMatches bits value low high (i ∷ rest)
        → AreMatches bits value low high rest
    unfolding AreMatches
    matches_after all = All-tail (IsMatch bits value low high) i rest all

    -- the same of the last
    pub last_inside : AreMatches bits value low high (rest ++ i ∷ []) → i < length bits
    unfolding AreMatches
    last_inside all = (All-pop (IsMatch bits value low high) _ rest (Some i) refl all).1.0

    pub last_within : AreMatches bits value low high (rest ++ i ∷ []) → IsTrue (within low high i)
    unfolding AreMatches
    last_within all = (All-pop (IsMatch bits value low high) _ rest (Some i) refl all).1.1

    pub last_value : AreMatches bits value low high (rest ++ i ∷ []) → item bits i ≡ value
    unfolding AreMatches
    last_value all = (All-pop (IsMatch bits value low high) _ rest (Some i) refl all).1.2

    pub matches_before : AreMatches bits value low high (rest ++ i ∷ [])
        → AreMatches bits value low high rest
    unfolding AreMatches
    matches_before all = (All-pop (IsMatch bits value low high) _ rest (Some i) refl all).0

-- ---- which indices a loop over a walk has come to: those that aren't left

pub left_none : (j : ℕ) → is_left [] j ≡ false
unfolding is_left
left_none j = refl

-- the first is no longer left behind it
pub left_other : (i : ℕ) (rest : List ℕ) (j : ℕ) → j ≢ i → is_left (i ∷ rest) j ≡ is_left rest j
unfolding is_left
left_other i rest j other =
    ap (λ b. b || is_left rest j)
    (false_from_ne_true (nat_eq i j) (λ same. other (sym (eqb-true i j same))))

left_at : (xs : List ℕ) (k j : ℕ) → k < length xs → get_or xs k j ≡ j → is_left xs j ≡ true
unfolding is_left
left_at [] k j inside here = absurd (omega arith)
left_at (x ∷ xs) zero j inside here = or_left (nat_eq x j) (is_left xs j) (eq-eqb x j here)
left_at (x ∷ xs) (suc k) j inside here =
    or_right (nat_eq x j) (is_left xs j) (left_at xs k j (omega arith) here)

-- each index that matches is left of a walk of which nothing was given yet
pub left_all : (bits : List Bool) (value : Bool) (low high : Bound ℕ) (j : ℕ) → j < length bits
    → IsTrue (within low high j) → item bits j ≡ value
    → is_left (matches bits value low high) j ≡ true
left_all bits value low high j inside ranged there =
    let found = (matches-exactly bits value low high j).1 (inside, ranged, there) in
    left_at (matches bits value low high) found.0 j found.1 found.2

-- what a loop over a walk needs: `using(vob_walk::proofs::IndexLemmas::loop_steps)`
pub ruleset loop_steps = (
  matches_all,
  first_inside,
  first_value,
  matches_after,
  left_all,
  left_other,
  left_none,
)

-- ---- indices of a range

-- an index of a range with an end is below it, and one of a range with a start is at or above it
pub first_below : (bits : List Bool) (value : Bool) (low : Bound ℕ) (stop i : ℕ) (rest : List ℕ)
    → AreMatches bits value low (Excluded stop) (i ∷ rest) → i < stop
first_below bits value low stop i rest all =
    ltb-true i stop (and_parts (from_start low i) (nat_lt i stop)
    (first_within bits value low (Excluded stop) i rest all)).1

pub first_above : (bits : List Bool) (value : Bool) (start : ℕ) (high : Bound ℕ) (i : ℕ)
    (rest : List ℕ) → AreMatches bits value (Included start) high (i ∷ rest) → start ≤ i
first_above bits value start high i rest all =
    leb-true start i (and_parts (nat_le start i) (up_to_end high i)
    (first_within bits value (Included start) high i rest all)).0

-- no more match within a range than it has indices
pub matches_at_most : (bits : List Bool) (value : Bool) (start stop : ℕ)
    → length (matches bits value (Included start) (Excluded stop)) ≤ stop - start
unfolding matches
matches_at_most bits value start stop = length-indices_within
    (λ i. within (Included start) (Excluded stop) i && has_value value (item bits i)) 0
    (length bits) start (stop - start) (λ i from below holds.
    let own = between_parts start stop i (has_value value (item bits i)) holds in
    (omega arith, omega arith))

-- ---- the same under names that `using` takes

pub matches_exactly : (bits : List Bool) (value : Bool) (low high : Bound ℕ) (i : ℕ)
    → Contains (matches bits value low high) i ↔ IsMatch bits value low high i
matches_exactly bits value low high i = matches-exactly bits value low high i

pub matches_rise : (bits : List Bool) (value : Bool) (low high : Bound ℕ)
    → AllPairs (λ i j. i < j) (matches bits value low high)
matches_rise bits value low high = matches-rise bits value low high

pub matches_count : (bits : List Bool) (value : Bool)
    → length (matches bits value Unbounded Unbounded) ≡ count_by (has_value value) bits
matches_count bits value = matches-count bits value

pub fresh_first : {walk after : Walk} {bits : List Bool} {value : Bool} {low high : Bound ℕ}
    {width i : ℕ} → IsFresh walk bits value low high width → GivesFirst walk (Some i) after
    → IsMatch bits value low high i
fresh_first fresh first = IsFresh-first fresh first

-- ---- a walk as the source of other iterators, which std's lemmas on them start from

pub YieldsList-from_walk : {walk : Walk} (xs : List ℕ) → walk.rest ≡ xs
    → YieldsList GivesFirst (λ i. i) walk xs
YieldsList-from_walk {walk} xs e =
    subst (YieldsList GivesFirst (λ i. i) walk) e
    (YieldsList-from_shown GivesFirst (λ i. i) (λ w. w.rest) (λ w v h. ap length h.gives.0)
    (λ w i v h. h.gives) walk)

pub YieldsList-from_rev_walk : {walk : Rev Walk} (xs : List ℕ) → (rev_source walk).rest ≡ xs
    → YieldsList (rev_steps GivesLast) (λ i. i) walk (reverse xs)
YieldsList-from_rev_walk {walk} xs e =
    subst (λ ys. YieldsList (rev_steps GivesLast) (λ i. i) walk (reverse ys)) e
    (YieldsList-from_shown (rev_steps GivesLast) (λ i. i) (λ w. reverse (rev_source w).rest)
    (λ w v h. length-reverse (rev_source w).rest ∙ ap length h.gives.0)
    (λ w i v h. ap reverse h.gives ∙ reverse-append (rev_source v).rest (i ∷ [])) walk)
