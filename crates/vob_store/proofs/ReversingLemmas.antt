-- Bits in reverse order, at a plain width.
use Rattle.std.proofs.Common.{◌≡◌, ℕ, zero, suc, ◌+◌, ◌-◌, ◌*◌, ◌/◌, ◌%◌, ◌^◌, ◌<◌, ◌≤◌, Bool, true, false, not}
use Rattle.std.proofs.Common.{◌&&◌, ◌||◌, List, [], ◌∷◌, leb, ltb, refl, sym, ap, ◌∙◌, arith, inl, inr}
use Rattle.std.proofs.Common.{one-mul, zero-mul, pow_pos}
use Rattle.std.proofs.lemmas.Bool.{cases_lt, cases_eq, lt-leb, le-leb, lt-ltb}
use Rattle.std.proofs.lemmas.Nat.{mul-add-lt, pow-add}
use Rattle.std.proofs.Math.Bool.{and-false}
use Rattle.vob_block.specs.Places.{place, HasPlaces}
use Rattle.vob_block.specs.Packing.{bit_at}
use Rattle.vob_block.specs.Pointwise.{differ}
use Rattle.vob_store.specs.Copying.{AreCopied}
use Rattle.vob_store.proofs.CopyLemmas.{places-first}
use Rattle.vob_store.specs.Reversing.{AreExchanged, AreReversed, IsHalvable}

-- ---- one block, whose parts are exchanged by halves

abbrev pub even : ℕ → Bool
even zero = true
even (suc n) = not (even n)

even-double : (a : ℕ) → even (a + a) ≡ true
even-double zero = refl
even-double (suc a) =
    let more : suc a + suc a ≡ suc (suc (a + a)) = omega arith in
    ap even more ∙ ap (λ b. not (not b)) (even-double a)

odd-double : (a : ℕ) → even (a + a + 1) ≡ false
odd-double a =
    let more : a + a + 1 ≡ suc (a + a) = omega arith in
    ap even more ∙ ap not (even-double a)

-- the m parts of s places of x stand in reverse order in v, each as it was, and the marks are
-- each second part, the first one too
pub record IsHalved (w s x v marks m : ℕ) : Type 0 where
  pub whole : m * s ≡ w
  pub parts : (q r : ℕ) → q < m → r < s → place (q * s + r) v ≡ place ((m - 1 - q) * s + r) x
  pub marked : (q r : ℕ) → q < m → r < s → place (q * s + r) marks ≡ even q

-- one part
pub IsHalved-one : (w x ones : ℕ) → ((j : ℕ) → j < w → place j ones ≡ true)
    → IsHalved w w x x ones 1
IsHalved-one w x ones all = record {
  whole = one-mul w;
  parts = λ q r first below.
      let none : q ≡ 0 = omega (arith, first) in
      ap (λ p. place (p * w + r) x) (omega (arith, none));
  marked = λ q r first below.
      let none : q ≡ 0 = omega (arith, first) in
      all (q * w + r) (omega (arith, below, ap (λ p. p * w) none, zero-mul w))
      ∙ ap even (sym none);
}

-- single places
pub IsHalved-places : (w x v marks m : ℕ) → IsHalved w 1 x v marks m
    → HasPlaces w v (λ j. place (w - 1 - j) x)
IsHalved-places w x v marks m h = record {
  each = λ j below.
      let same : m ≡ w = omega (arith, h.whole) in
      ap (λ i. place i v) (omega arith) ∙ h.parts j 0 (omega (arith, below, same)) (omega arith)
      ∙ ap (λ i. place i x) (omega (arith, same));
}

differ-not : (b : Bool) → differ (not b) b ≡ true
differ-not true = refl
differ-not false = refl

differ-same : (b : Bool) → differ b b ≡ false
differ-same true = refl
differ-same false = refl

first_alone : (p : Bool) → (((true && p) && true) || false) ≡ p
first_alone true = refl
first_alone false = refl

none_first : (p q : Bool) → ((p && false) || q) ≡ q
none_first true q = refl
none_first false q = refl

and-true : (p : Bool) → (p && true) ≡ p
and-true true = refl
and-true false = refl

-- parts of half the size: neighbours are exchanged where the mask says so
module _ (w t x v marks m moved halves y : ℕ) (some : 0 < t) (h : IsHalved w (t + t) x v marks m)
    (up : HasPlaces w moved (λ j. leb t j && place (j - t) marks))
    (half : HasPlaces w halves (λ j. differ (place j marks) (place j moved)))
    (swapped : HasPlaces w y (λ j. ((ltb (j + t) w && place (j + t) v) && place j halves)
    || (leb t j && (place (j - t) v && place (j - t) halves)))) where
  inside : (a r : ℕ) → a < m → r < t + t → a * (t + t) + r < w
  inside a r less below = omega (arith, mul-add-lt a (t + t) r m less below, h.whole)

  -- a place of the lower half of each part is marked
  lower : (a r : ℕ) → a < m → r < t → place (a * (t + t) + r) halves ≡ true
  lower zero r less below =
      let j = zero * (t + t) + r in
      let here = inside zero r less (omega (arith, below)) in
      half.each j here ∙ ap (λ b. differ b (place j moved)) (h.marked zero r less (omega (arith, below)))
      ∙ ap (differ true) (up.each j here
      ∙ ap (λ b. b && place (j - t) marks) (lt-leb t j (omega (arith, below))))
  lower (suc a) r less below =
      let j = suc a * (t + t) + r in
      let here = inside (suc a) r less (omega (arith, below)) in
      let back : j - t ≡ a * (t + t) + (t + r) = omega arith in
      half.each j here
      ∙ ap (λ b. differ b (place j moved)) (h.marked (suc a) r less (omega (arith, below)))
      ∙ ap (differ (even (suc a))) (up.each j here
      ∙ ap (λ b. b && place (j - t) marks) (le-leb t j (omega arith))
      ∙ ap (λ i. place i marks) back
      ∙ h.marked a (t + r) (omega (arith, less)) (omega (arith, below)))
      ∙ differ-not (even a)

  -- and one of the upper half isn't
  upper : (a r : ℕ) → a < m → r < t → place (a * (t + t) + (t + r)) halves ≡ false
  upper a r less below =
      let j = a * (t + t) + (t + r) in
      let here = inside a (t + r) less (omega (arith, below)) in
      let back : j - t ≡ a * (t + t) + r = omega arith in
      half.each j here
      ∙ ap (λ b. differ b (place j moved)) (h.marked a (t + r) less (omega (arith, below)))
      ∙ ap (differ (even a)) (up.each j here
      ∙ ap (λ b. b && place (j - t) marks) (le-leb t j (omega arith))
      ∙ ap (λ i. place i marks) back
      ∙ h.marked a r less (omega (arith, below)))
      ∙ differ-same (even a)

  -- nothing comes from below into a lower half
  none_below : (a r : ℕ) → a < m → r < t → (leb t (a * (t + t) + r)
      && (place (a * (t + t) + r - t) v && place (a * (t + t) + r - t) halves)) ≡ false
  none_below zero r less below =
      let j = zero * (t + t) + r in
      ap (λ b. b && (place (j - t) v && place (j - t) halves)) (lt-leb t j (omega (arith, below)))
  none_below (suc a) r less below =
      let j = suc a * (t + t) + r in
      let back : j - t ≡ a * (t + t) + (t + r) = omega arith in
      ap (λ b. leb t j && (place (j - t) v && b))
      (ap (λ i. place i halves) back ∙ upper a r (omega (arith, less)) below)
      ∙ ap (λ b. leb t j && b) (and-false (place (j - t) v)) ∙ and-false (leb t j)

  into_lower : (a r : ℕ) → a < m → r < t
      → place (a * (t + t) + r) y ≡ place ((m - 1 - a) * (t + t) + (t + r)) x
  into_lower a r less below =
      let j = a * (t + t) + r in
      let there : j + t ≡ a * (t + t) + (t + r) = omega arith in
      let far = inside a (t + r) less (omega (arith, below)) in
      swapped.each j (inside a r less (omega (arith, below)))
      ∙ ap (λ b. ((ltb (j + t) w && place (j + t) v) && place j halves) || b)
      (none_below a r less below)
      ∙ ap (λ b. ((ltb (j + t) w && place (j + t) v) && b) || false) (lower a r less below)
      ∙ ap (λ b. ((b && place (j + t) v) && true) || false)
      (lt-ltb (j + t) w (omega (arith, far)))
      ∙ first_alone (place (j + t) v) ∙ ap (λ i. place i v) there
      ∙ h.parts a (t + r) less (omega (arith, below))

  into_upper : (a r : ℕ) → a < m → r < t
      → place (a * (t + t) + (t + r)) y ≡ place ((m - 1 - a) * (t + t) + r) x
  into_upper a r less below =
      let j = a * (t + t) + (t + r) in
      let back : j - t ≡ a * (t + t) + r = omega arith in
      swapped.each j (inside a (t + r) less (omega (arith, below)))
      ∙ ap (λ b. ((ltb (j + t) w && place (j + t) v) && b)
      || (leb t j && (place (j - t) v && place (j - t) halves))) (upper a r less below)
      ∙ none_first (ltb (j + t) w && place (j + t) v)
      (leb t j && (place (j - t) v && place (j - t) halves))
      ∙ ap (λ b. b && (place (j - t) v && place (j - t) halves)) (le-leb t j (omega arith))
      ∙ ap (λ b. place (j - t) v && b) (ap (λ i. place i halves) back ∙ lower a r less below)
      ∙ and-true (place (j - t) v) ∙ ap (λ i. place i v) back
      ∙ h.parts a r less (omega (arith, below))

  pub IsHalved-half : IsHalved w t x y halves (m + m)
  IsHalved-half = record {
    whole = omega (arith, h.whole);
    parts = λ q r less below.
        let a = q / 2 in
        let k = m - 1 - a in
        let there : a < m = omega (arith, less) in
        elim (cases_eq (q % 2) 0) [
          | inl pair ↦
              let at : q ≡ a + a = omega (arith, pair) in
              let from : m + m - 1 - q ≡ k + k + 1 = omega (arith, pair, less) in
              let here : q * t + r ≡ a * (t + t) + r =
              ap (λ n. n * t + r) at ∙ omega arith in
              let source : k * (t + t) + (t + r) ≡ (m + m - 1 - q) * t + r =
              sym (ap (λ n. n * t + r) from ∙ omega arith) in
              ap (λ i. place i y) here ∙ into_lower a r there below ∙ ap (λ i. place i x) source
          | inr odd ↦
              let at : q ≡ a + a + 1 = omega (arith, odd) in
              let from : m + m - 1 - q ≡ k + k = omega (arith, odd, less) in
              let here : q * t + r ≡ a * (t + t) + (t + r) =
              ap (λ n. n * t + r) at ∙ omega arith in
              let source : k * (t + t) + r ≡ (m + m - 1 - q) * t + r =
              sym (ap (λ n. n * t + r) from ∙ omega arith) in
              ap (λ i. place i y) here ∙ into_upper a r there below ∙ ap (λ i. place i x) source
        ];
    marked = λ q r less below.
        let a = q / 2 in
        let there : a < m = omega (arith, less) in
        elim (cases_eq (q % 2) 0) [
          | inl pair ↦
              let at : q ≡ a + a = omega (arith, pair) in
              let here : q * t + r ≡ a * (t + t) + r =
              ap (λ n. n * t + r) at ∙ omega arith in
              ap (λ i. place i halves) here ∙ lower a r there below
              ∙ sym (ap even at ∙ even-double a)
          | inr odd ↦
              let at : q ≡ a + a + 1 = omega (arith, odd) in
              let here : q * t + r ≡ a * (t + t) + (t + r) =
              ap (λ n. n * t + r) at ∙ omega arith in
              ap (λ i. place i halves) here ∙ upper a r there below
              ∙ sym (ap even at ∙ odd-double a)
        ];
  }

-- a power of two above 1 is twice one
pub half_power : (s : ℕ) → IsHalvable s → 1 < s → (IsHalvable (s / 2)) × (s ≡ s / 2 + s / 2)
half_power s power more = by_exponent power.0 power.1
  where
    by_exponent : (n : ℕ) → s ≡ 2 ^ n → (IsHalvable (s / 2)) × (s ≡ s / 2 + s / 2)
    by_exponent zero is = absurd (omega (arith, is, more))
    by_exponent (suc n) is =
        let twice : 2 ^ (suc n) ≡ 2 * 2 ^ n = ap (λ k. 2 ^ k) (omega arith) ∙ pow-add 2 1 n in
        ((n, omega (arith, is, twice)), omega (arith, is, twice))

pub IsHalvable-positive : (s : ℕ) → IsHalvable s → 0 < s
IsHalvable-positive s power = omega (arith, power.1, pow_pos power.0)

-- ---- both ends of some blocks

-- the first bits from an index on, last first
pub reversed-low : (w n from x y z : ℕ) (xs : List ℕ) → 0 < n → n ≤ w
    → HasPlaces w x (λ j. bit_at xs w (from + j)) → HasPlaces w y (λ j. place (w - 1 - j) x)
    → HasPlaces w z (λ j. ltb (j + (w - n)) w && place (j + (w - n)) y)
    → HasPlaces n z (λ j. bit_at xs w (from + (n - 1 - j)))
reversed-low w n from x y z xs some few all turned down = record {
  each = λ j below.
      let i = j + (w - n) in
      let there : w - 1 - i ≡ n - 1 - j = omega (arith, below, few) in
      down.each j (omega (arith, below, few))
      ∙ ap (λ b. b && place i y) (lt-ltb i w (omega (arith, below, few)))
      ∙ turned.each i (omega (arith, below, few)) ∙ ap (λ k. place k x) there
      ∙ all.each (n - 1 - j) (omega (arith, below, few));
}

-- written at the other ends
pub AreExchanged-by : (w start stop n low high : ℕ) (xs ys zs : List ℕ) → n ≤ w
    → start + 2 * n ≤ stop → HasPlaces n low (λ j. bit_at xs w (start + (n - 1 - j)))
    → HasPlaces n high (λ j. bit_at xs w (stop - n + (n - 1 - j)))
    → AreCopied w start 0 n xs (high ∷ []) ys → AreCopied w (stop - n) 0 n ys (low ∷ []) zs
    → AreExchanged w start stop n xs zs
AreExchanged-by w start stop n low high xs ys zs few apart lows highs front back = record {
  front = λ j less. back.before (start + j) (omega (arith, less, apart)) ∙ front.copied j less
      ∙ sym ((places-first w high).each j (omega (arith, less, few))) ∙ highs.each j less
      ∙ ap (bit_at xs w) (omega (arith, less, apart));
  back = λ j less.
      let k = n - 1 - j in
      let here : stop - 1 - j ≡ stop - n + k = omega (arith, less, apart) in
      ap (bit_at zs w) here ∙ back.copied k (omega (arith, less))
      ∙ sym ((places-first w low).each k (omega (arith, less, few)))
      ∙ lows.each k (omega (arith, less)) ∙ ap (bit_at xs w) (omega (arith, less));
  before = λ i less. back.before i (omega (arith, less, apart)) ∙ front.before i less;
  between = λ i past less. back.before i less ∙ front.behind i past;
  behind = λ i past. back.behind i (omega (arith, past, apart))
      ∙ front.behind i (omega (arith, past, apart));
}

-- ---- the bits outside of those that are left

-- the bits from index start to below stop are in reverse order but for those from low to below high,
-- which are as they were, as are those outside
pub record AreTurned (w start stop low high : ℕ) (blocks after : List ℕ) : Type 0 where
  pub first : start ≤ low
  pub middle : low + high ≡ start + stop
  pub front : (j : ℕ) → start + j < low → bit_at after w (start + j) ≡ bit_at blocks w (stop - 1 - j)
  pub back : (j : ℕ) → start + j < low → bit_at after w (stop - 1 - j) ≡ bit_at blocks w (start + j)
  pub before : (i : ℕ) → i < start → bit_at after w i ≡ bit_at blocks w i
  pub between : (i : ℕ) → low ≤ i → i < high → bit_at after w i ≡ bit_at blocks w i
  pub behind : (i : ℕ) → stop ≤ i → bit_at after w i ≡ bit_at blocks w i

pub AreTurned-none : (w start stop : ℕ) (xs : List ℕ) → AreTurned w start stop start stop xs xs
AreTurned-none w start stop xs = record {
  first = omega arith;
  middle = refl;
  front = λ j less. absurd (omega arith);
  back = λ j less. absurd (omega arith);
  before = λ i less. refl;
  between = λ i past less. refl;
  behind = λ i past. refl;
}

-- some more at both ends
pub AreTurned-more : {w start stop low high count : ℕ} {olds xs ys : List ℕ}
    → low + 2 * count ≤ high → AreTurned w start stop low high olds xs
    → AreExchanged w low high count xs ys
    → AreTurned w start stop (low + count) (high - count) olds ys
AreTurned-more {w} {start} {stop} {low} {high} {count} {olds} {xs} {ys} apart h e =
    record {
      first = omega (arith, h.first);
      middle = omega (arith, h.middle, apart);
      front = λ j less. elim (cases_lt (start + j) low) [
        | inl done ↦ e.before (start + j) done ∙ h.front j done
        | inr new ↦
            let k = start + j - low in
            let here : start + j ≡ low + k = omega (arith, new) in
            let there : high - 1 - k ≡ stop - 1 - j = omega (arith, new, h.middle, h.first, less, apart) in
            ap (bit_at ys w) here ∙ e.front k (omega (arith, less, new))
            ∙ h.between (high - 1 - k) (omega (arith, less, new, apart)) (omega (arith, less, new, apart))
            ∙ ap (bit_at olds w) there
      ];
      back = λ j less. elim (cases_lt (start + j) low) [
        | inl done ↦
            e.behind (stop - 1 - j) (omega (arith, done, h.middle)) ∙ h.back j done
        | inr new ↦
            let k = start + j - low in
            let here : low + k ≡ start + j = omega (arith, new) in
            let there : stop - 1 - j ≡ high - 1 - k = omega (arith, new, h.middle, h.first, less, apart) in
            ap (bit_at ys w) there ∙ e.back k (omega (arith, less, new))
            ∙ h.between (low + k) (omega (arith, new)) (omega (arith, less, new, apart))
            ∙ ap (bit_at olds w) here
      ];
      before = λ i less. e.before i (omega (arith, less, h.first)) ∙ h.before i less;
      between = λ i past less. e.between i past less
          ∙ h.between i (omega (arith, past)) (omega (arith, less));
      behind = λ i past. e.behind i (omega (arith, past, h.middle, h.first)) ∙ h.behind i past;
    }

-- all but one in the middle, which stays
pub AreTurned-all : {w start stop low high : ℕ} {olds xs : List ℕ} → low ≤ high → high ≤ low + 1
    → AreTurned w start stop low high olds xs → AreReversed w start stop olds xs
AreTurned-all {w} {start} {stop} {low} {high} {olds} {xs} order near h = record {
  inside = λ j less. elim (cases_lt (start + j) low) [
    | inl front ↦ h.front j front
    | inr past ↦ elim (cases_lt (start + j) high) [
      | inl middle ↦ h.between (start + j) past middle
          ∙ ap (bit_at olds w) (omega (arith, past, middle, near, h.middle, order))
      | inr back ↦
          let k = stop - 1 - (start + j) in
          let here : start + j ≡ stop - 1 - k = omega (arith, less) in
          ap (bit_at xs w) here ∙ h.back k (omega (arith, back, less, h.middle))
          ∙ ap (bit_at olds w) (omega (arith, less, h.middle, back))
    ]
  ];
  before = h.before;
  behind = h.behind;
}
