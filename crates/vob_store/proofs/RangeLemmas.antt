-- Blocks of which the bits of a range are changed, at a plain width.
use Rattle.std.proofs.Common.{◌≡◌, ◌≢◌, ◌↔◌, ℕ, ◌+◌, ◌-◌, ◌*◌, ◌/◌, ◌%◌, ◌^◌, ◌<◌, ◌≤◌, nat_le}
use Rattle.std.proofs.Common.{nat_lt, Bool, true, false, not, ◌&&◌, ◌||◌, cond, List, length, map}
use Rattle.std.proofs.Common.{get_or, set, refl, sym, ap, ◌∙◌, subst, arith, inl, inr, mod-lt}
use Rattle.std.proofs.Common.{div-add-mod', add-mul, one-mul}
use Rattle.std.proofs.lemmas.Bool.{cases_eq, cases_lt, lt-leb, le-leb, lt-ltb, le-ltb, and_left}
use Rattle.std.proofs.lemmas.Bool.{and_right, and_from, or_parts, not-false, cond-true, cond-false}
use Rattle.std.proofs.lemmas.Bool.{false≢true}
use Rattle.std.proofs.lemmas.List.{map-set, length-map, length-set, get_or-set_same}
use Rattle.std.proofs.lemmas.List.Elements.{All-set}
use Rattle.std.proofs.lemmas.Nat.{mul-le, le-div, div_below}
use Rattle.vob_block.specs.Places.{place, HasPlaces}
use Rattle.vob_block.specs.Pointwise.{differ}
use Rattle.vob_block.specs.Packing.{bit_at, unpacking, IsCanonical}
use Rattle.vob_block.proofs.BoolLemmas.{or-test, and-test, differ-test}
use Rattle.vob_block.proofs.KernelLemmas.{differ-zero, zero-differ, or-zero, zero-or}
use Rattle.vob_block.proofs.PackingLemmas.{bit_at-in_block, bit_at-is_place, bit_at-set_same, bit_at-set_other, bit_at-is_item}
use Rattle.vob_block.proofs.PlaceLemmas.{place-ones, same_from_places}
use Rattle.vob_store.specs.Range.{HaveSameBits, IsRanged}
use Rattle.vob_store.proofs.BuildLemmas.{number_indexed}
use Rattle.vob_store.proofs.CutLemmas.{unpacking_same}

-- ---- a block under a mask

module _ (w x m y : ℕ) where
  pub HasPlaces-set : HasPlaces w y (λ j. place j x || place j m)
      → HasPlaces w y (λ j. cond (place j m) true (place j x))
  HasPlaces-set h = record { each = λ j k. h.each j k ∙ or-test (place j x) (place j m) }

  pub HasPlaces-unset : (z : ℕ) → HasPlaces w z (λ j. not (place j m))
      → HasPlaces w y (λ j. place j x && place j z)
      → HasPlaces w y (λ j. cond (place j m) false (place j x))
  HasPlaces-unset z negated h = record {
    each = λ j k. h.each j k ∙ ap (λ b. place j x && b) (negated.each j k)
        ∙ and-test (place j x) (place j m);
  }

  pub HasPlaces-negated : HasPlaces w y (λ j. differ (place j x) (place j m))
      → HasPlaces w y (λ j. cond (place j m) (not (place j x)) (place j x))
  HasPlaces-negated h = record { each = λ j k. h.each j k ∙ differ-test (place j x) (place j m) }

-- ---- masks

from-test : (from j : ℕ) → not (nat_lt j from) ≡ nat_le from j
from-test from j = elim (cases_lt j from) [
  | inl below ↦ ap not (lt-ltb j from below) ∙ sym (lt-leb from j below)
  | inr above ↦ ap not (le-ltb j from above) ∙ sym (le-leb from j above)
]

swapped : (a b : Bool) → (a && b) ≡ (b && a)
swapped true true = refl
swapped true false = refl
swapped false true = refl
swapped false false = refl

pub HasPlaces-between : (w from to low high others both : ℕ)
    → HasPlaces w low (λ j. nat_lt j from) → HasPlaces w high (λ j. nat_lt j to)
    → HasPlaces w others (λ j. not (place j low))
    → HasPlaces w both (λ j. place j high && place j others)
    → HasPlaces w both (λ j. nat_le from j && nat_lt j to)
HasPlaces-between w from to low high others both lows highs negated h = record {
  each = λ j k. h.each j k ∙ ap (λ b. place j high && b) (negated.each j k
      ∙ ap not (lows.each j k) ∙ from-test from j) ∙ ap (λ b. b && nat_le from j) (highs.each j k)
      ∙ swapped (nat_lt j to) (nat_le from j);
}

-- a block of true places is the mask of all
pub HasPlaces-all : (w ones : ℕ) → ones ≡ 2 ^ w - 1
    → HasPlaces w ones (λ j. nat_le 0 j && nat_lt j w)
HasPlaces-all w ones is = record {
  each = λ j k. ap (place j) is ∙ place-ones w j k
      ∙ sym (and_from (nat_le 0 j) (nat_lt j w) (le-leb 0 j (omega arith)) (lt-ltb j w k));
}

-- ---- one block changed

module _ (w : ℕ) (wide : 0 < w) (xs : List ℕ) (k x y : ℕ) (inside : k < length xs)
    (is : x ≡ get_or xs k 0) where
  before : (i : ℕ) → i / w ≡ k → place (i % w) x ≡ bit_at xs w i
  before i here = ap (place (i % w)) is ∙ ap (λ q. place (i % w) (get_or xs q 0)) (sym here)
      ∙ sym (bit_at-is_place xs w i)

  within_block : (i : ℕ) → i / w ≡ k → k * w + i % w ≡ i
  within_block i here = ap (λ q. q * w + i % w) (sym here) ∙ div-add-mod' i w

  quotient : (i : ℕ) → k * w ≤ i → i < k * w + w → i / w ≡ k
  quotient i above below =
      let more : (k + 1) * w ≡ k * w + w = omega (arith, add-mul k 1 w, one-mul w) in
      let low = le-div k i w wide above in
      let high = div_below i w (k + 1) wide (omega (arith, below, more)) in
      omega (arith, low, high)

  -- a block of which the places under a mask are changed
  module _ (f : Bool → Bool) (from to mask : ℕ) (fits : to ≤ w)
      (masked : HasPlaces w mask (λ j. nat_le from j && nat_lt j to)) (small : y < 2 ^ w)
      (places : HasPlaces w y (λ j. cond (place j mask) (f (place j x)) (place j x))) where
    kept : (i : ℕ) → i / w ≡ k → (nat_le from (i % w) && nat_lt (i % w) to) ≡ false
        → bit_at (set xs k y) w i ≡ bit_at xs w i
    kept i here test =
        let j = i % w in
        bit_at-set_same xs w k y i inside here ∙ places.each j (mod-lt i wide)
        ∙ cond-false (place j mask) (f (place j x)) (place j x)
        (masked.each j (mod-lt i wide) ∙ test) ∙ before i here

    pub IsRanged-block : IsRanged w f (k * w + from) (k * w + to) xs (set xs k y)
    IsRanged-block = record {
      count = length-set xs k y;
      within = λ all. All-set (λ x. x < 2 ^ w) xs k y small all;
      below = λ i less. elim (cases_eq (i / w) k) [
        | inl here ↦ kept i here (and_left (nat_le from (i % w)) (nat_lt (i % w) to)
            (lt-leb from (i % w) (omega (arith, within_block i here, less))))
        | inr apart ↦ bit_at-set_other xs w k y i apart
      ];
      inside = λ i above less.
          let here = quotient i (omega (arith, above)) (omega (arith, less, fits)) in
          let whole = within_block i here in
          let j = i % w in
          bit_at-set_same xs w k y i inside here ∙ places.each j (mod-lt i wide)
          ∙ cond-true (place j mask) (f (place j x)) (place j x) (masked.each j (mod-lt i wide)
          ∙ and_from (nat_le from j) (nat_lt j to) (le-leb from j (omega (arith, whole, above)))
          (lt-ltb j to (omega (arith, whole, less)))) ∙ ap f (before i here);
      above = λ i more. elim (cases_eq (i / w) k) [
        | inl here ↦ kept i here (and_right (nat_le from (i % w)) (nat_lt (i % w) to)
            (le-ltb (i % w) to (omega (arith, within_block i here, more))))
        | inr apart ↦ bit_at-set_other xs w k y i apart
      ];
    }

  -- the bits are the same exactly where the block is
  pub same_block : x < 2 ^ w → y < 2 ^ w → (x ≡ y) ↔ HaveSameBits w xs (set xs k y)
  same_block small new_small = (
    (λ e i. elim (cases_eq (i / w) k) [
      | inl here ↦ bit_at-set_same xs w k y i inside here ∙ ap (place (i % w)) (sym e)
          ∙ before i here
      | inr apart ↦ bit_at-set_other xs w k y i apart
    ]),
    (λ same. same_from_places w x y small new_small (λ j less.
        ap (place j) is ∙ sym (bit_at-in_block xs w k j less) ∙ sym (same (k * w + j))
        ∙ bit_at-in_block (set xs k y) w k j less
        ∙ ap (place j) (get_or-set_same xs k y 0 inside))),
  )

-- ---- ranges side by side

pub IsRanged-none : {w : ℕ} {f : Bool → Bool} {a b : ℕ} {xs : List ℕ} → b ≤ a
    → IsRanged w f a b xs xs
IsRanged-none empty = record {
  count = refl;
  within = λ all. all;
  below = λ i _. refl;
  inside = λ i above below. absurd (omega (arith, above, below, empty));
  above = λ i _. refl;
}

module _ {w : ℕ} {f : Bool → Bool} {a b c : ℕ} {xs ys zs : List ℕ} (first : IsRanged w f a b xs ys)
    (second : IsRanged w f b c ys zs) (start : a ≤ b) (end : b ≤ c) where
  pub IsRanged-join : IsRanged w f a c xs zs
  IsRanged-join = record {
    count = second.count ∙ first.count;
    within = λ all. second.within (first.within all);
    below = λ i less. second.below i (omega arith) ∙ first.below i less;
    inside = λ i above less. elim (cases_lt i b) [
      | inl front ↦ second.below i front ∙ first.inside i above front
      | inr back ↦ second.inside i back less ∙ ap f (first.above i back)
    ];
    above = λ i more. second.above i more ∙ first.above i (omega arith);
  }

  pub same_join : (HaveSameBits w xs ys × HaveSameBits w ys zs) ↔ HaveSameBits w xs zs
  same_join = (
    (λ both i. both.1 i ∙ both.0 i),
    (λ all. (
      (λ i. elim (cases_lt i b) [
        | inl front ↦ sym (second.below i front) ∙ all i
        | inr back ↦ first.above i back
      ]),
      (λ i. elim (cases_lt i b) [
        | inl front ↦ second.below i front
        | inr back ↦ all i ∙ sym (first.above i back)
      ]),
    )),
  )

-- ---- whether something changed

-- an answer that is the negation of a test
pub not_flag : {P : Type 0} (r test : Bool) → r ≡ not test → ((test ≡ true) ↔ P)
    → (r ≡ false) ↔ P
not_flag r test is holds = (
  (λ e. holds.0 (not-false test (sym is ∙ e))),
  (λ p. is ∙ ap not (holds.1 p)),
)

-- two answers, of which either says that something changed
pub or_flag : {P Q R : Type 0} (r s : Bool) → ((r ≡ false) ↔ P) → ((s ≡ false) ↔ Q)
    → ((P × Q) ↔ R) → ((r || s) ≡ false) ↔ R
or_flag r s one other both = (
  (λ e. let parts = or_parts r s e in both.0 (one.0 parts.0, other.0 parts.1)),
  (λ all. let parts = both.1 all in
      ap (λ b. b || s) (one.1 parts.0) ∙ other.1 parts.1),
)

pub gathered_none : (w a : ℕ) (xs : List ℕ) → a ≡ 0 → (a ≡ 0) ↔ HaveSameBits w xs xs
gathered_none w a xs zero = ((λ _ i. refl), (λ _. zero))

-- what was gathered so far, and the places in which one block more differs
pub gathered : (w : ℕ) {a x y d b : ℕ} {P Q R : Type 0} → a < 2 ^ w → x < 2 ^ w → y < 2 ^ w
    → d < 2 ^ w → b < 2 ^ w → HasPlaces w d (λ j. differ (place j x) (place j y))
    → HasPlaces w b (λ j. place j a || place j d) → ((a ≡ 0) ↔ P) → ((x ≡ y) ↔ Q)
    → ((P × Q) ↔ R) → (b ≡ 0) ↔ R
gathered w {a} {x} {y} {d} {b} a-in x-in y-in d-in b-in differs packed one other both = (
  (λ e.
      let parts = or-zero w a d b a-in d-in packed e in
      both.0 (one.0 parts.0, other.0 (differ-zero w x y d x-in y-in differs parts.1))),
  (λ all.
      let parts = both.1 all in
      zero-or w a d b b-in packed (one.1 parts.0)
      (zero-differ w x y d d-in differs (other.1 parts.1))),
)

-- the lists are others exactly where a bit is
pub changed_list : (w : ℕ) → 0 < w → (n : ℕ) (xs ys : List ℕ) (r : Bool) → IsCanonical n xs w
    → IsCanonical n ys w → ((r ≡ false) ↔ HaveSameBits w xs ys)
    → (r ≡ true) ↔ (unpacking n ys w ≢ unpacking n xs w)
changed_list w wide n xs ys r g h flag = (
  (λ e lists. false≢true (sym (flag.1 (λ i. bit_at-is_item w wide n ys h i
      ∙ ap (λ bits. get_or bits i false) lists ∙ sym (bit_at-is_item w wide n xs g i))) ∙ e)),
  (λ other. is_true r (λ e. other (unpacking_same n xs ys w (λ i _. flag.0 e i)))),
)
  where
    is_true : (r : Bool) → (r ≡ false → ⊥) → r ≡ true
    is_true true h = refl
    is_true false h = absurd (h refl)

-- what is changed below the length stays canonical
pub IsCanonical-ranged : {w : ℕ} {f : Bool → Bool} {n start stop : ℕ} {xs ys : List ℕ}
    → IsCanonical n xs w → IsRanged w f start stop xs ys → stop ≤ n → IsCanonical n ys w
IsCanonical-ranged h ranged inside = record {
  count = ranged.count ∙ h.count;
  within = ranged.within h.within;
  unused = λ i above. ranged.above i (omega arith) ∙ h.unused i above;
}

-- ---- the same of items with a number each, as the code reads and writes them

module _ {X : Type 0} (number : X → ℕ) (w : ℕ) (wide : 0 < w) (f : Bool → Bool) (items : List X)
    (k : ℕ) (old new : X) (inside : k < length items) (read : old ≡ get_or items k old) where
  pub IsRanged-item : (from to mask : ℕ) → to ≤ w
      → HasPlaces w mask (λ j. nat_le from j && nat_lt j to) → number new < 2 ^ w
      → HasPlaces w (number new)
      (λ j. cond (place j mask) (f (place j (number old))) (place j (number old)))
      → IsRanged w f (k * w + from) (k * w + to) (map number items) (map number (set items k new))
  IsRanged-item from to mask fits masked small places = rw map-set
      (IsRanged-block w wide (map number items) k (number old) (number new)
      (omega (arith, inside, length-map items number))
      (number_indexed number items k old inside read)
      f from to mask fits masked small places)

  pub same_item : number old < 2 ^ w → number new < 2 ^ w → (number old ≡ number new)
      ↔ HaveSameBits w (map number items) (map number (set items k new))
  same_item small new_small = rw map-set
      (same_block w wide (map number items) k (number old) (number new)
      (omega (arith, inside, length-map items number))
      (number_indexed number items k old inside read)
      small new_small)

-- ---- a range of several blocks; u is the width as the code read it

pub IsRanged-ends : {w : ℕ} {f : Bool → Bool} {a b c d : ℕ} {xs ys : List ℕ}
    → IsRanged w f a b xs ys → a ≡ c → b ≡ d → IsRanged w f c d xs ys
IsRanged-ends {w} {f} {a} {b} {c} {d} {xs} {ys} ranged start end =
    subst (λ (e : ℕ). IsRanged w f c e xs ys) end
    (subst (λ (e : ℕ). IsRanged w f e b xs ys) start ranged)

module _ (w : ℕ) (wide : 0 < w) (u : ℕ) (same : u ≡ w) where
  pub at_width : (i : ℕ) → i / u * w + i % u ≡ i
  at_width i = ap (λ v. i / u * v + i % u) (sym same) ∙ div-add-mod' i u

  pub below_end : (stop : ℕ) → 0 < stop
      → (stop - 1) / u * w + ((stop - 1) % u + 1) ≡ stop
  below_end stop some = omega (arith, at_width (stop - 1), some)

  pub blocks_rise : (start stop : ℕ) → start < stop → start / u ≢ (stop - 1) / u
      → start / u + 1 ≤ (stop - 1) / u
  blocks_rise start stop some apart =
      let before = le-div (start / u) (stop - 1) w wide
      (omega (arith, at_width start, some)) in
      let last : (stop - 1) / w ≡ (stop - 1) / u = ap (λ v. (stop - 1) / v) (sym same) in
      omega (arith, before, last, apart)

  pub block_of : (i n : ℕ) → i < n * w → i / u < n
  block_of i n inside = rw same (div_below i w n wide inside)

  module _ {f : Bool → Bool} {xs ys : List ℕ} (start stop : ℕ) (some : start < stop) where
    -- a first block, those between, and a last one
    module _ {zs us : List ℕ} (order : start / u + 1 ≤ (stop - 1) / u)
        (head : IsRanged w f (start / u * w + start % u) (start / u * w + u) xs ys)
        (middle : IsRanged w f ((start / u + 1) * w) ((stop - 1) / u * w) ys zs)
        (tail : IsRanged w f ((stop - 1) / u * w + 0)
        ((stop - 1) / u * w + ((stop - 1) % u + 1)) zs us) where
      next : start / u * w + u ≡ (start / u + 1) * w
      next = omega (arith, same, add-mul (start / u) 1 w, one-mul w)

      first : IsRanged w f start ((start / u + 1) * w) xs ys
      first = IsRanged-ends head (at_width start) next

      last : IsRanged w f ((stop - 1) / u * w) stop zs us
      last = IsRanged-ends tail (omega arith) (below_end stop (omega arith))

      rise : start ≤ (start / u + 1) * w
      rise = omega (
        arith,
        sym next,
        at_width start,
        same,
        mod-lt start (subst (λ (v : ℕ). 0 < v) (sym same) wide),
      )

      across : (start / u + 1) * w ≤ (stop - 1) / u * w
      across = mul-le (start / u + 1) w ((stop - 1) / u) w order (omega arith)

      both : IsRanged w f start ((stop - 1) / u * w) xs zs
      both = IsRanged-join first middle rise across

      up : (stop - 1) / u * w ≤ stop
      up = omega (arith, below_end stop (omega arith))

      pub IsRanged-three : IsRanged w f start stop xs us
      IsRanged-three = IsRanged-join both last (omega (arith, rise, across)) up

      pub flag_of_three : (r s t : Bool) → ((r ≡ false) ↔ HaveSameBits w xs ys)
          → ((s ≡ false) ↔ HaveSameBits w ys zs) → ((t ≡ false) ↔ HaveSameBits w zs us)
          → (((r || s) || t) ≡ false) ↔ HaveSameBits w xs us
      flag_of_three r s t one two three = or_flag (r || s) t
          (or_flag r s one two (same_join first middle rise across)) three
          (same_join both last (omega (arith, rise, across)) up)
