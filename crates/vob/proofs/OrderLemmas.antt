-- Where two lists of bits differ first, by their blocks, and the order that this gives.
use Rattle.std.specs.Prelude.{Option, Some, None, MatchOption}
use Rattle.std.specs.Ordering.{bool_cmp, nat_cmp, ordering_then}
use Rattle.std.specs.declared.cmp.Ordering.{Ordering}
use Rattle.std.specs.declared.cmp.Ordering.TheVariants.{Less, Equal, Greater}
use Rattle.std.specs.Cmp.Lexicographic.{slice_cmp}
use Rattle.std.proofs.Common.{◌≡◌, ◌≢◌, ℕ, zero, suc, ◌/◌, ◌<◌, ◌≤◌, max, min, nat_lt, nat_eq, Bool, true, false, not, List}
use Rattle.std.proofs.Common.{[], ◌∷◌, cond, length, map, take, refl, sym, ap, ◌∙◌, arith, inl, inr}
use Rattle.std.proofs.lemmas.Bool.{cases_lt, cases_eq, cond-true, cond-false, false≢true, lt-ltb, le-ltb, eq-eqb, ne_eqb}
use Rattle.std.proofs.lemmas.List.{get_or_past, length-map, length-take-le, take-map}
use Rattle.vob_block.specs.Packing.{item, need, bit_at, unpacking, IsCanonical}
use Rattle.vob_block.specs.Pointwise.{differ}
use Rattle.vob_block.proofs.BoolLemmas.{differ-same, same_from_differ}
use Rattle.vob_block.proofs.NeedLemmas.{div-lt-need, need-le-need}
use Rattle.vob_block.proofs.PackingLemmas.{bit_at-is_item, bit_at-past, length-unpacking}
use Rattle.vob_store.specs.Combined.{combined_bit, HaveNone, IsFirstCombined}
use Rattle.vob_store.proofs.BuildLemmas.{AreBuilt-take}
use Rattle.vob.specs.Order.{IsDifference, IsFirstDifference}
use Rattle.vob.proofs.SetsLemmas.{equal_by, none_where, some_where}

-- ---- an answer

module _ (bits others : List Bool) where
  abbrev pub Agree : Type 0
  Agree = (i : ℕ) → i < length bits → i < length others → item bits i ≡ item others i

  once : (i j : ℕ) → IsFirstDifference bits others i → IsFirstDifference bits others j → i ≡ j
  once i j p q = equal_by i j (λ less. p.differ (q.same i less)) (λ less. q.differ (p.same j less))

  pub difference_is : (answer : Option ℕ)
      → MatchOption answer Agree (IsFirstDifference bits others) → IsDifference bits others answer
  difference_is answer h =
      let P : ℕ → Type 0 = IsFirstDifference bits others in
      let apart = λ (i : ℕ) (p : P i) (none : Agree). p.differ (none i p.inside p.theirs) in record {
        some = some_where P Agree once apart answer h;
        none = none_where P Agree once apart answer h;
      }

-- ---- the blocks of two lists, as many as the shorter one needs

-- fewer bits need no more blocks than there are
pub count-le : {X : Type 0} (number : X → ℕ) (w : ℕ) → 0 < w → {n k j : ℕ} (items : List X)
    → IsCanonical n (map number items) w → j ≤ n → k ≡ need j w → k ≤ length items
count-le number w wide {n} {k} {j} items own order count =
    omega (arith, count, own.count, need-le-need w wide j n order, length-map items number)

-- the first place where these differ is where the lists do, if it is within both
pub record DecideFirst (w n m k : ℕ) (xs ys : List ℕ) (bits others : List Bool) : Type 0 where
  pub below : (i : ℕ) → combined_bit differ w xs ys i ≡ true → i < max n m
  pub none : HaveNone differ w 0 k xs ys → IsDifference bits others None
  pub inside : (i : ℕ) → IsFirstCombined differ w xs ys i → i < min n m
      → IsDifference bits others (Some i)
  pub past : (i : ℕ) → IsFirstCombined differ w xs ys i → min n m ≤ i
      → IsDifference bits others None

module _ (w : ℕ) (wide : 0 < w) (n m : ℕ) (xs ys : List ℕ) (bits others : List Bool)
    (own : IsCanonical n xs w) (is : unpacking n xs w ≡ bits) (other : IsCanonical m ys w)
    (its : unpacking m ys w ≡ others) (k : ℕ) (count : k ≡ need (min n m) w) where
  blocks-le : (k ≤ length xs) × (k ≤ length ys)
  blocks-le = (
    omega (arith, count, own.count, need-le-need w wide (min n m) n (omega arith)),
    omega (arith, count, other.count, need-le-need w wide (min n m) m (omega arith)),
  )

  abbrev both : ℕ → Bool
  both = combined_bit differ w (take k xs) (take k ys)

  bit-within : (i : ℕ) → i / w < k → both i ≡ differ (item bits i) (item others i)
  bit-within i inside =
      ap (λ b. differ b (bit_at (take k ys) w i)) ((AreBuilt-take w wide k xs).each i inside
      ∙ bit_at-is_item w wide n xs own i ∙ ap (λ bs. item bs i) is)
      ∙ ap (differ (item bits i)) ((AreBuilt-take w wide k ys).each i inside
      ∙ bit_at-is_item w wide m ys other i ∙ ap (λ bs. item bs i) its)

  long : (length bits ≡ n) × (length others ≡ m)
  long = (sym (ap length is) ∙ length-unpacking n xs w, sym (ap length its) ∙ length-unpacking m ys w)

  -- a bit that differs is below one of the lengths
  differs-below : (i : ℕ) → both i ≡ true → (i / w < k) × (i < max n m)
  differs-below i true_bit = elim (cases_lt (i / w) k) [
    | inr past ↦ absurd (false≢true (sym (ap (λ b. differ b (bit_at (take k ys) w i))
        (bit_at-past (take k xs) w i (omega (arith, past, length-take-le k xs blocks-le.0)))
        ∙ ap (differ false)
        (bit_at-past (take k ys) w i (omega (arith, past, length-take-le k ys blocks-le.1))))
        ∙ true_bit))
    | inl inside ↦ elim (cases_lt i (max n m)) [
      | inl less ↦ (inside, less)
      | inr far ↦ absurd (false≢true (sym (bit-within i inside
          ∙ ap (λ b. differ b (item others i)) (get_or_past bits i false (omega (arith, far, long.0)))
          ∙ ap (differ false) (get_or_past others i false (omega (arith, far, long.1)))) ∙ true_bit))
    ]
  ]

  agree_below : (i : ℕ) → i < min n m → both i ≡ false → item bits i ≡ item others i
  agree_below i less none = same_from_differ (item bits i) (item others i)
      (sym (bit-within i (omega (arith, count, div-lt-need w wide (min n m) i less))) ∙ none)

  none_found : HaveNone differ w 0 k (take k xs) (take k ys) → IsDifference bits others None
  none_found none = difference_is bits others None (λ i inside theirs.
      let less : i < min n m = omega (arith, inside, theirs, long.0, long.1) in
      agree_below i less (none i (omega arith)
      (omega (arith, count, div-lt-need w wide (min n m) i less))))

  module _ (i : ℕ) (first : IsFirstCombined differ w (take k xs) (take k ys) i) where
    found_inside : i < min n m → IsDifference bits others (Some i)
    found_inside less = difference_is bits others (Some i) record {
      inside = omega (arith, less, long.0);
      theirs = omega (arith, less, long.1);
      differ = λ e. false≢true (sym (bit-within i (differs-below i first.there).0
          ∙ ap (λ b. differ b (item others i)) e ∙ differ-same (item others i)) ∙ first.there);
      same = λ j lower. agree_below j (omega (arith, lower, less)) (first.before j lower);
    }

    found_past : min n m ≤ i → IsDifference bits others None
    found_past past = difference_is bits others None (λ j inside theirs.
        let less : j < min n m = omega (arith, inside, theirs, long.0, long.1) in
        agree_below j less (first.before j (omega (arith, less, past))))

  pub decide : DecideFirst w n m k (take k xs) (take k ys) bits others
  decide = record {
    below = λ i h. (differs-below i h).1;
    none = none_found;
    inside = found_inside;
    past = found_past;
  }

-- ---- the order of lists

other_bits : (b c : Bool) → b ≢ c → (o : Ordering) → ordering_then (bool_cmp b c) o ≡ bool_cmp b c
other_bits true true other o = absurd (other refl)
other_bits true false other o = refl
other_bits false true other o = refl
other_bits false false other o = absurd (other refl)

same_bits : (b c : Bool) → b ≡ c → (o : Ordering) → ordering_then (bool_cmp b c) o ≡ o
same_bits true true same o = refl
same_bits true false same o = absurd (false≢true (sym same))
same_bits false true same o = absurd (false≢true same)
same_bits false false same o = refl

other_is : (b c : Bool) → b ≢ c → b ≡ not c
other_is true true other = absurd (other refl)
other_is true false other = refl
other_is false true other = refl
other_is false false other = absurd (other refl)

-- the first bits that differ decide
pub cmp_difference : (bits others : List Bool) (i : ℕ) → IsFirstDifference bits others i
    → slice_cmp bool_cmp bits others ≡ bool_cmp (item bits i) (item others i)
cmp_difference [] others i h = absurd (omega (arith, h.inside))
cmp_difference (b ∷ bits) [] i h = absurd (omega (arith, h.theirs))
cmp_difference (b ∷ bits) (c ∷ others) zero h = other_bits b c h.differ (slice_cmp bool_cmp bits others)
cmp_difference (b ∷ bits) (c ∷ others) (suc i) h =
    same_bits b c (h.same 0 (omega arith)) (slice_cmp bool_cmp bits others)
    ∙ cmp_difference bits others i record {
      inside = omega (arith, h.inside);
      theirs = omega (arith, h.theirs);
      differ = h.differ;
      same = λ j less. h.same (suc j) (omega (arith, less));
    }

-- and the lengths, if there are none
rest_agrees : (b c : Bool) (bits others : List Bool) → Agree (b ∷ bits) (c ∷ others)
    → Agree bits others
rest_agrees b c bits others all i inside theirs = all (suc i) (omega arith) (omega arith)

cmp_shorter : (bits others : List Bool) → Agree bits others → length bits < length others
    → slice_cmp bool_cmp bits others ≡ Less
cmp_shorter bits [] all less = absurd (omega arith)
cmp_shorter [] (c ∷ others) all less = refl
cmp_shorter (b ∷ bits) (c ∷ others) all less =
    same_bits b c (all 0 (omega arith) (omega arith)) (slice_cmp bool_cmp bits others)
    ∙ cmp_shorter bits others (rest_agrees b c bits others all) (omega arith)

cmp_longer : (bits others : List Bool) → Agree bits others → length others < length bits
    → slice_cmp bool_cmp bits others ≡ Greater
cmp_longer [] others all more = absurd (omega arith)
cmp_longer (b ∷ bits) [] all more = refl
cmp_longer (b ∷ bits) (c ∷ others) all more =
    same_bits b c (all 0 (omega arith) (omega arith)) (slice_cmp bool_cmp bits others)
    ∙ cmp_longer bits others (rest_agrees b c bits others all) (omega arith)

cmp_as_long : (bits others : List Bool) → Agree bits others → length bits ≡ length others
    → slice_cmp bool_cmp bits others ≡ Equal
cmp_as_long [] [] all same = refl
cmp_as_long [] (c ∷ others) all same = absurd (omega arith)
cmp_as_long (b ∷ bits) [] all same = absurd (omega arith)
cmp_as_long (b ∷ bits) (c ∷ others) all same =
    same_bits b c (all 0 (omega arith) (omega arith)) (slice_cmp bool_cmp bits others)
    ∙ cmp_as_long bits others (rest_agrees b c bits others all) (omega arith)

pub cmp_lengths : (bits others : List Bool) → Agree bits others
    → slice_cmp bool_cmp bits others ≡ nat_cmp (length bits) (length others)
cmp_lengths bits others all =
    let n = length bits in
    let m = length others in
    let equal = cond (nat_eq n m) Equal Greater in
    elim (cases_lt n m) [
      | inl less ↦ cmp_shorter bits others all less
          ∙ sym (cond-true (nat_lt n m) Less equal (lt-ltb n m less))
      | inr past ↦ elim (cases_eq n m) [
        | inl same ↦ cmp_as_long bits others all same
            ∙ sym (cond-true (nat_eq n m) Equal Greater (eq-eqb n m same))
        | inr other ↦ cmp_longer bits others all (omega (arith, past, other))
            ∙ sym (cond-false (nat_eq n m) Equal Greater (ne_eqb n m other))
      ] ∙ sym (cond-false (nat_lt n m) Less equal (le-ltb n m past))
    ]

-- ---- the two cases of the first bits that differ

module _ (bits others : List Bool) (i : ℕ) (first : IsFirstDifference bits others i) where
  pub cmp_greater : item bits i ≡ true → slice_cmp bool_cmp bits others ≡ Greater
  cmp_greater set = cmp_difference bits others i first
      ∙ ap (λ b. bool_cmp b (item others i)) set
      ∙ ap (bool_cmp true) (other_is (item others i) true (λ e. first.differ (set ∙ sym e)))

  pub cmp_less : item bits i ≡ false → slice_cmp bool_cmp bits others ≡ Less
  cmp_less unset = cmp_difference bits others i first
      ∙ ap (λ b. bool_cmp b (item others i)) unset
      ∙ ap (bool_cmp false) (other_is (item others i) false (λ e. first.differ (unset ∙ sym e)))

-- the first blocks of a slice that was lent, by their numbers
pub first_blocks : {X : Type 0} (number : X → ℕ) (k : ℕ) {items lent part : List X}
    → part ≡ take k lent → lent ≡ items → map number part ≡ take k (map number items)
first_blocks number k {items} front value =
    ap (map number) (front ∙ ap (take k) value) ∙ sym (take-map number k items)
