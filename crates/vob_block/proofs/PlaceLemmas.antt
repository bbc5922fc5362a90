-- The places of what `&`, `|`, `!` and `<<` give, over a plain width.
use Rattle.std.specs.Prelude.{bit_and, bit_or, bit_xor}
use Rattle.std.specs.Int.{Width, w8, w16, w32, w64, w128, bit_at, bit_not, rotate_left}
use Rattle.num_traits.specs.Laws.{bit_len, shift_left}
use Rattle.std.proofs.Common.{◌≡◌, ◌≢◌, ℕ, zero, suc, ◌+◌, ◌-◌, ◌*◌, ◌/◌, ◌%◌, ◌^◌, ◌<◌, ◌≤◌, Bool}
use Rattle.std.proofs.Common.{true, false, not, ◌&&◌, ◌||◌, min, max, eqb, leb, refl, sym, ap, ◌∙◌}
use Rattle.std.proofs.Common.{arith, ltb, lt_of_le_of_lt, add_comm, mod-lt, one-mul, add-zero, inl}
use Rattle.std.proofs.Common.{inr, subst, cond, mod-eq_of_lt}
use Rattle.std.proofs.lemmas.Bool.{lt-ltb, le-ltb, cases_lt, and_left, and_right, cases_Bool}
use Rattle.std.proofs.lemmas.Bool.{cases_eq, false≢true, cases_order, lt-leb, le-leb, eq-eqb}
use Rattle.std.proofs.lemmas.Bool.{ne_eqb, cond-true, cond-false}
use Rattle.std.proofs.lemmas.Bool.Decides.{nat_tests}
use Rattle.std.proofs.Math.Bool.{or-false}
use Rattle.std.proofs.lemmas.Nat.{shr_le, shr-shr, pow_pos, pow_below, shr_split, or_lt, mod-mul-add}
use Rattle.std.proofs.lemmas.Nat.Bits.{bit_at_and, bit_at_or, bit_at_xor, bit_at-lt, bit_at-zero}
use Rattle.std.proofs.lemmas.Nat.Bits.{bit_at-pow_same, bit_at-pow_other, bit_at_above, bit_at_ones}
use Rattle.std.proofs.lemmas.Nat.Bits.{bit_at_cat_low, bit_at_cat_high, bit_at_not}
use Rattle.std.proofs.lemmas.Nat.Bits.{same_from_bits_below}
use mir.Val.{bits}
use Rattle.vob_block.specs.Places.{place, HasPlaces}
use Rattle.vob_block.specs.Pointwise.{differ, without}
use Rattle.vob_block.proofs.BoolLemmas.{differ-both}

-- a bit is 0 or 1, so its tests for 1 go together as the bits do
tests-min : (a b : ℕ) → a < 2 → b < 2 → eqb (min a b) 1 ≡ (eqb a 1 && eqb b 1)
tests-min a b h k = grind (arith, nat_tests)

tests-max : (a b : ℕ) → a < 2 → b < 2 → eqb (max a b) 1 ≡ (eqb a 1 || eqb b 1)
tests-max a b h k = grind (arith, nat_tests)

tests-sub : (a : ℕ) → a < 2 → eqb (1 - a) 1 ≡ not (eqb a 1)
tests-sub a h = grind (arith, nat_tests)

-- ---- a number by its places

bit_from_place : (a b : ℕ) → a < 2 → b < 2 → eqb a 1 ≡ eqb b 1 → a ≡ b
bit_from_place a b h k e = grind (arith, nat_tests)

-- numbers within the width that have the same places are the same
pub same_from_places : (w a b : ℕ) → a < 2 ^ w → b < 2 ^ w
    → ((j : ℕ) → j < w → place j a ≡ place j b) → a ≡ b
same_from_places w a b p q same = same_from_bits_below w a b p q
    (λ j h. bit_from_place _ _ (bit_at-lt a j) (bit_at-lt b j) (same j h))

pub place-zero : (j : ℕ) → place j 0 ≡ false
place-zero j = ap (λ b. eqb b 1) (bit_at-zero j)

pub place_above : (x w j : ℕ) → x < 2 ^ w → w ≤ j → place j x ≡ false
place_above x w j h k = ap (λ b. eqb b 1) (bit_at_above x w j h k)

pub place-pow : (k j : ℕ) → place j (2 ^ k) ≡ eqb j k
place-pow k j = elim (cases_order j k) [
  | inl same ↦ rw same (ap (λ b. eqb b 1) (bit_at-pow_same k) ∙ sym (eq-eqb k k refl))
  | inr other ↦
      let apart : j ≢ k = elim other [ inl l ↦ omega arith | inr m ↦ omega arith ] in
      ap (λ b. eqb b 1) (bit_at-pow_other k j apart) ∙ sym (ne_eqb j k apart)
]

-- ---- the operators

pub place-and : (a b j : ℕ) → place j (bit_and a b) ≡ (place j a && place j b)
place-and a b j = ap (λ c. eqb c 1) (bit_at_and a b j)
    ∙ tests-min _ _ (bit_at-lt a j) (bit_at-lt b j)

pub place-or : (a b j : ℕ) → place j (bit_or a b) ≡ (place j a || place j b)
place-or a b j = ap (λ c. eqb c 1) (bit_at_or a b j) ∙ tests-max _ _ (bit_at-lt a j) (bit_at-lt b j)

tests-sum : (a b : ℕ) → a < 2 → b < 2 → eqb ((a + b) % 2) 1 ≡ differ (eqb a 1) (eqb b 1)
tests-sum zero zero h k = refl
tests-sum zero (suc zero) h k = refl
tests-sum (suc zero) zero h k = refl
tests-sum (suc zero) (suc zero) h k = refl
tests-sum (suc (suc a)) b h k = absurd (omega arith)
tests-sum zero (suc (suc b)) h k = absurd (omega arith)
tests-sum (suc zero) (suc (suc b)) h k = absurd (omega arith)

pub place-xor : (a b j : ℕ) → place j (bit_xor a b) ≡ differ (place j a) (place j b)
place-xor a b j = ap (λ c. eqb c 1) (bit_at_xor a b j)
    ∙ tests-sum _ _ (bit_at-lt a j) (bit_at-lt b j)

pub place-without : (a b j : ℕ) → place j (bit_xor a (bit_and a b)) ≡ without (place j a) (place j b)
place-without a b j =
    place-xor a (bit_and a b) j ∙ ap (differ (place j a)) (place-and a b j)
    ∙ differ-both (place j a) (place j b)

-- the low w places of y are those of `y % 2 ^ w`
place-mod : (w y j : ℕ) → j < w → place j (y % 2 ^ w) ≡ place j y
place-mod w y j h =
    let low = bit_at_cat_low (y / 2 ^ w) w (y % 2 ^ w) j h in
    ap (λ c. eqb c 1) (sym low ∙ ap (λ z. bit_at z j) (shr_split y w))

place-mul_pow : (x n j : ℕ) → place j (x * 2 ^ n) ≡ (leb n j && place (j - n) x)
place-mul_pow x n j = elim (cases_lt j n) [
  | inl below ↦
      let low = ap (λ z. bit_at z j) (sym (add-zero (x * 2 ^ n))) ∙ bit_at_cat_low x n 0 j below
      ∙ bit_at-zero j in
      ap (λ c. eqb c 1) low ∙ sym (and_left (leb n j) (place (j - n) x) (lt-leb n j below))
  | inr above ↦
      let high = ap (λ z. bit_at z j) (sym (add-zero (x * 2 ^ n)))
      ∙ bit_at_cat_high x n 0 j (pow_pos n) above in
      ap (λ c. eqb c 1) high ∙ sym (ap (λ b. b && place (j - n) x) (le-leb n j above))
]

-- `x << n` at w bits
pub place-shift : (w x n j : ℕ) → j < w → place j (x * 2 ^ n % 2 ^ w) ≡ (leb n j && place (j - n) x)
place-shift w x n j h = place-mod w (x * 2 ^ n) j h ∙ place-mul_pow x n j

-- `!x` at w bits
pub place-complement : (w : Width) (x j : ℕ) → x < 2 ^ bits w → j < bits w → place j (bit_not w x)
    ≡ not (place j x)
place-complement w x j p h = ap (λ c. eqb c 1) (bit_at_not w x j p h) ∙ tests-sub _ (bit_at-lt x j)

-- ---- a number in the place of another

pub HasPlaces-at : (w x y : ℕ) (f : ℕ → Bool) → x ≡ y → HasPlaces w x f → HasPlaces w y f
HasPlaces-at w x y f e h = subst (λ (n : ℕ). HasPlaces w n f) e h

-- ---- at a type of num_traits, whose `bit_len` is the number of bits

pub bits_is : (w : Width) → bits w ≡ bit_len w
bits_is w8 = refl
bits_is w16 = refl
bits_is w32 = refl
bits_is w64 = refl
bits_is w128 = refl

-- `!x`
pub complement-lt : (w : Width) (n x : ℕ) → n ≡ bit_len w → bit_not w x < 2 ^ n
complement-lt w n x e =
    let whole : 2 ^ n ≡ 2 ^ bits w = ap (λ k. 2 ^ k) (e ∙ sym (bits_is w)) in
    omega (arith, pow_pos (bits w), whole)

pub HasPlaces-complement : (w : Width) (n x : ℕ) → n ≡ bit_len w → x < 2 ^ n
    → HasPlaces n (bit_not w x) (λ j. not (place j x))
HasPlaces-complement w n x e p =
    let same = e ∙ sym (bits_is w) in
    let within = subst (λ (k : ℕ). x < 2 ^ k) same p in
    record { each = λ j h. place-complement w x j within (subst (λ (k : ℕ). j < k) same h) }

-- `x << n`
pub shift-lt : (w : Width) (n x k : ℕ) → n ≡ bit_len w → shift_left w x k < 2 ^ n
shift-lt w n x k e = subst (λ (m : ℕ). shift_left w x k < 2 ^ m) (sym e)
    (mod-lt (x * 2 ^ k) (pow_pos (bit_len w)))

pub HasPlaces-shift : (w : Width) (n x k : ℕ) → n ≡ bit_len w
    → HasPlaces n (shift_left w x k) (λ j. leb k j && place (j - k) x)
HasPlaces-shift w n x k e = record {
  each = λ j h.
      place-shift (bit_len w) x k j (subst (λ (m : ℕ). j < m) e h);
}

-- `x >> n`
pub shift_down-lt : (w x n : ℕ) → x < 2 ^ w → x / 2 ^ n < 2 ^ w
shift_down-lt w x n h = lt_of_le_of_lt (shr_le x n) h

pub HasPlaces-shift_down : (w x n : ℕ) → x < 2 ^ w
    → HasPlaces w (x / 2 ^ n) (λ j. ltb (j + n) w && place (j + n) x)
HasPlaces-shift_down w x n h = record {
  each = λ j k. elim (cases_lt (j + n) w) [
    | inl inside ↦ moved j ∙ sym (ap (λ b. b && place (j + n) x) (lt-ltb (j + n) w inside))
    | inr past ↦ moved j ∙ place_above x w (j + n) h past
        ∙ sym (and_left (ltb (j + n) w) (place (j + n) x) (le-ltb (j + n) w past))
  ];
}
  where
    moved : (j : ℕ) → place j (x / 2 ^ n) ≡ place (j + n) x
    moved j = ap (λ y. eqb (y % 2) 1) (shr-shr x n j ∙ ap (λ k. x / 2 ^ k) (add_comm n j))

-- `x.rotate_left(n)`
pub HasPlaces-rotate : (w : Width) (v x n : ℕ) → v ≡ bit_len w → x < 2 ^ v → 0 < n → n < v
    → HasPlaces v (rotate_left w x n) (λ j. place ((j + (v - n)) % v) x)
HasPlaces-rotate w v x n e h positive below = record {
  each = λ j k.
      let all : v ≡ bits w = e ∙ sym (bits_is w) in
      let turn : n % bits w ≡ n = mod-eq_of_lt (subst (λ (m : ℕ). n < m) all below) in
      let less : v - n < v = omega arith in
      let back : (bits w - n % bits w) % bits w ≡ v - n =
      ap (λ m. (bits w - m) % bits w) turn ∙ ap (λ m. (m - n) % m) (sym all) ∙ mod-eq_of_lt less in
      let low : place j (x * 2 ^ (n % bits w) % 2 ^ bits w) ≡ (leb n j && place (j - n) x) =
      ap (λ m. place j (x * 2 ^ m % 2 ^ bits w)) turn
      ∙ place-shift (bits w) x n j (subst (λ (m : ℕ). j < m) all k) in
      let high : place j (x / 2 ^ ((bits w - n % bits w) % bits w))
      ≡ (ltb (j + (v - n)) v && place (j + (v - n)) x) =
      ap (λ m. place j (x / 2 ^ m)) back ∙ (HasPlaces-shift_down v x (v - n) h).each j k in
      place-or (x * 2 ^ (n % bits w) % 2 ^ bits w) (x / 2 ^ ((bits w - n % bits w) % bits w)) j
      ∙ ap (λ b. b || place j (x / 2 ^ ((bits w - n % bits w) % bits w))) low
      ∙ ap (λ b. (leb n j && place (j - n) x) || b) high
      ∙ elim (cases_lt j n) [
        | inl inside ↦
            let fits : j + (v - n) < v = omega arith in
            let whole : (j + (v - n)) % v ≡ j + (v - n) = mod-eq_of_lt fits in
            ap (λ b. b || (ltb (j + (v - n)) v && place (j + (v - n)) x))
            (and_left (leb n j) (place (j - n) x) (lt-leb n j inside))
            ∙ ap (λ b. b && place (j + (v - n)) x) (lt-ltb (j + (v - n)) v (omega arith))
            ∙ ap (λ i. place i x) (sym whole)
        | inr past ↦
            let same : j + (v - n) ≡ 1 * v + (j - n) = omega arith in
            let whole : (j + (v - n)) % v ≡ j - n =
            ap (λ i. i % v) same ∙ mod-mul-add 1 v (j - n) (omega arith) in
            ap (λ b. (leb n j && place (j - n) x) || b)
            (and_left (ltb (j + (v - n)) v) (place (j + (v - n)) x)
            (le-ltb (j + (v - n)) v (omega arith)))
            ∙ or-false (leb n j && place (j - n) x)
            ∙ ap (λ b. b && place (j - n) x) (le-leb n j past) ∙ ap (λ i. place i x) (sym whole)
      ];
}

pub rotate-lt : (w : Width) (v x n : ℕ) → v ≡ bit_len w → x < 2 ^ v → rotate_left w x n < 2 ^ v
rotate-lt w v x n e h =
    let all : bits w ≡ v = bits_is w ∙ sym e in
    let low = subst (λ (m : ℕ). x * 2 ^ (n % bits w) % 2 ^ bits w < 2 ^ m) all
    (mod-lt (x * 2 ^ (n % bits w)) (pow_pos (bits w))) in
    or_lt v (x * 2 ^ (n % bits w) % 2 ^ bits w) (x / 2 ^ ((bits w - n % bits w) % bits w)) low
    (lt_of_le_of_lt (shr_le x _) h)

-- the places of two neighbours that a funnel shift takes
pub HasPlaces-funnel_down : (w from u low high below above both : ℕ) → u ≡ w → 0 < from → from < w
    → HasPlaces w below (λ j. ltb (j + from) w && place (j + from) low)
    → HasPlaces w above (λ j. leb (u - from) j && place (j - (u - from)) high)
    → HasPlaces w both (λ j. place j below || place j above)
    → HasPlaces w both (λ j. cond (ltb (j + from) w) (place (j + from) low)
    (place (j + from - w) high))
HasPlaces-funnel_down w from u low high below above both same positive inside p q r = record {
  each = λ j k.
      let up : place j above ≡ (leb (w - from) j && place (j - (w - from)) high) =
      q.each j k ∙ ap (λ m. leb (m - from) j && place (j - (m - from)) high) same in
      r.each j k ∙ ap (λ b. b || place j above) (p.each j k)
      ∙ ap (λ b. (ltb (j + from) w && place (j + from) low) || b) up
      ∙ elim (cases_lt (j + from) w) [
        | inl fits ↦
            ap (λ b. (ltb (j + from) w && place (j + from) low) || b)
            (and_left (leb (w - from) j) (place (j - (w - from)) high)
            (lt-leb (w - from) j (omega arith)))
            ∙ or-false (ltb (j + from) w && place (j + from) low)
            ∙ ap (λ b. b && place (j + from) low) (lt-ltb (j + from) w fits)
            ∙ sym (cond-true (ltb (j + from) w) (place (j + from) low) (place (j + from - w) high)
            (lt-ltb (j + from) w fits))
        | inr past ↦
            let moved : j - (w - from) ≡ j + from - w = omega arith in
            ap (λ b. b || (leb (w - from) j && place (j - (w - from)) high))
            (and_left (ltb (j + from) w) (place (j + from) low) (le-ltb (j + from) w past))
            ∙ ap (λ b. b && place (j - (w - from)) high) (le-leb (w - from) j (omega arith))
            ∙ ap (λ i. place i high) moved
            ∙ sym (cond-false (ltb (j + from) w) (place (j + from) low)
            (place (j + from - w) high) (le-ltb (j + from) w past))
      ];
}

-- every place, and no place
pub place-ones : (w j : ℕ) → j < w → place j (2 ^ w - 1) ≡ true
place-ones w j h = ap (λ c. eqb c 1) (bit_at_ones w j h)

-- ---- a mask of the low places

pub HasPlaces-mask_none : (w x n : ℕ) → x ≡ 0 → n ≡ 0 → HasPlaces w x (λ j. ltb j n)
HasPlaces-mask_none w x n e none = record {
  each =
      λ j k. ap (place j) e ∙ place-zero j ∙ sym (le-ltb j n (omega arith));
}

pub HasPlaces-mask : (w x y n : ℕ) → x ≡ 2 ^ w - 1 → n ≤ w
    → HasPlaces w y (λ j. ltb (j + (w - n)) w && place (j + (w - n)) x)
    → HasPlaces w y (λ j. ltb j n)
HasPlaces-mask w x y n all fits h = record {
  each = λ j k. h.each j k ∙ elim (cases_lt j n) [
    | inl below ↦
        let inside : j + (w - n) < w = omega arith in
        ap (λ b. b && place (j + (w - n)) x) (lt-ltb (j + (w - n)) w inside)
        ∙ ap (place (j + (w - n))) all ∙ place-ones w (j + (w - n)) inside
        ∙ sym (lt-ltb j n below)
    | inr above ↦
        and_left (ltb (j + (w - n)) w) (place (j + (w - n)) x)
        (le-ltb (j + (w - n)) w (omega arith)) ∙ sym (le-ltb j n above)
  ];
}

-- ---- a test of one place

module _ (w j : ℕ) (inside : j < w) where
  -- one, moved up by j
  pub mask-is : (one mask : ℕ) → one ≡ 1 → mask < 2 ^ w
      → HasPlaces w mask (λ i. leb j i && place (i - j) one) → mask ≡ 2 ^ j
  mask-is one mask e p h =
      let each = λ (i : ℕ) (k : i < w). h.each i k ∙ ap (λ n. leb j i && place (i - j) n) e
      ∙ sym (place-mul_pow 1 j i) in
      let is = same_from_places w mask (1 * 2 ^ j) p
      (subst (λ (n : ℕ). n < 2 ^ w) (sym (one-mul (2 ^ j))) (pow_below j w inside)) each in
      is ∙ one-mul (2 ^ j)

  meets-mask : (x both i : ℕ) → i < w → HasPlaces w both (λ i. place i x && place i (2 ^ j))
      → place i both ≡ (place i x && eqb i j)
  meets-mask x both i k h = h.each i k ∙ ap (λ b. place i x && b) (place-pow j i)

  not-empty : (x both : ℕ) → HasPlaces w both (λ i. place i x && place i (2 ^ j)) → place j x
      ≡ true → both ≡ 0 → ⊥
  not-empty x both h t z =
      let here = meets-mask x both j inside h ∙ ap (λ b. b && eqb j j) t ∙ eq-eqb j j refl in
      false≢true (sym (place-zero j) ∙ ap (place j) (sym z) ∙ here)

  empty : (x both : ℕ) → HasPlaces w both (λ i. place i x && place i (2 ^ j)) → both < 2 ^ w
      → place j x ≡ false → both ≡ 0
  empty x both h p f = same_from_places w both 0 p (pow_pos w)
      (λ i k. meets-mask x both i k h ∙ nowhere x i f ∙ sym (place-zero i))
    where
      nowhere : (x i : ℕ) → place j x ≡ false → (place i x && eqb i j) ≡ false
      nowhere x i f = elim (cases_eq i j) [
        | inl same ↦ and_left (place i x) (eqb i j) (ap (λ k. place k x) same ∙ f)
        | inr other ↦ and_right (place i x) (eqb i j) (ne_eqb i j other)
      ]

  -- what is left of x under the mask equals zero, or not
  pub place_from_test : (x both none : ℕ) (same : Bool)
      → HasPlaces w both (λ i. place i x && place i (2 ^ j)) → both < 2 ^ w → none ≡ 0
      → ((same ≡ true → both ≡ none) × (both ≡ none → same ≡ true)) → not same ≡ place j x
  place_from_test x both none true h p z test = elim (cases_Bool (place j x)) [
    | inl t ↦ absurd (not-empty x both h t (test.0 refl ∙ z))
    | inr f ↦ sym f
  ]
  place_from_test x both none false h p z test = elim (cases_Bool (place j x)) [
    | inl t ↦ sym t
    | inr f ↦ absurd (false≢true (test.1 (empty x both h p f ∙ sym z)))
  ]
