-- The next bit of a value, within a block and over blocks without one, and the previous one.
use Rattle.std.specs.Bool.{beq}
use Rattle.std.proofs.Common.{◌≡◌, ◌≢◌, ℕ, ◌+◌, ◌-◌, ◌*◌, ◌/◌, ◌%◌, ◌^◌, ◌<◌, ◌≤◌, max, min, Bool, true}
use Rattle.std.proofs.Common.{false, ◌&&◌, nat_lt, leb, cond, List, map, get_or, Some, None, refl}
use Rattle.std.proofs.Common.{sym, ap, ◌∙◌, arith, inl, inr, mod-lt, div-add-mod'}
use Rattle.std.proofs.lemmas.Bool.{cases_lt, and_from, and_parts, le-leb, leb-true, lt-ltb, ltb-true, false≢true}
use Rattle.std.proofs.lemmas.Nat.{div-mul-add, le-div, mul-le, pow_pos}
use Rattle.vob_block.specs.Places.{place, HasPlaces, HasZerosLow, HasZerosHigh}
use Rattle.vob_block.specs.Packing.{need, bit_at}
use Rattle.vob_block.specs.Reading.{Reading}
use Rattle.vob_block.proofs.NeedLemmas.{need_enough, need_least, lt-need, div-lt-need, mul-lt_from_need}
use Rattle.vob_block.proofs.PackingLemmas.{bit_at-in_block}
use Rattle.vob_block.proofs.PlaceLemmas.{place-zero, place-ones, same_from_places}
use Rattle.vob_walk.specs.declared.walk.End.TheVariants.{Front, Back}
use Rattle.vob_walk.specs.Matches.{has_value}
use Rattle.vob_walk.specs.Next.{HasNoBit, IsFirstPlace, IsLastPlace, FindsUp, FindsBack}
use Rattle.vob_walk.specs.Skip.{AreSkipped, Scans}
use Rattle.vob_walk.proofs.IndexLemmas.{value_is, has_value-same}
use Rattle.vob_walk.proofs.ScanLemmas.{HasPlaces-from_part, without_value, bit_at-skipped, product-more}

pub beq-true : (a b : Bool) → beq a b ≡ true → a ≡ b
beq-true true true h = refl
beq-true true false h = sym h
beq-true false true h = h
beq-true false false h = refl

-- ---- within a block: x is the block, v its bits of the value, and h those from place n on

module _ (w n x v ones mask h : ℕ) (value : Bool) (all : ones ≡ 2 ^ w - 1)
    (bits : HasPlaces w v (λ j. has_value value (place j x)))
    (up : HasPlaces w mask (λ j. leb n j && place (j - n) ones))
    (both : HasPlaces w h (λ j. place j v && place j mask)) where
  high_is : (j : ℕ) → j < w → place j h ≡ (leb n j && has_value value (place j x))
  high_is j inside =
      let here : 0 + j ≡ j = omega arith in
      (HasPlaces-from_part w 0 n n v h ones mask (omega arith) (omega arith) all up both).each j
      inside ∙ ap (λ k. leb n k && place j v) here ∙ ap (λ b. leb n j && b) (bits.each j inside)

  high-without : (j : ℕ) → n ≤ j → j < w → place j h ≡ false → place j x ≢ value
  high-without j from inside none same = false≢true (sym none ∙ high_is j inside
      ∙ and_from (leb n j) (has_value value (place j x)) (le-leb n j from)
      (has_value-same value (place j x) same))

  high-with : (j : ℕ) → j < w → place j h ≡ true → (n ≤ j) × (place j x ≡ value)
  high-with j inside there =
      let parts = and_parts (leb n j) (has_value value (place j x)) (sym (high_is j inside) ∙ there)
      in (leb-true n j parts.0, value_is value (place j x) parts.1)

  pub IsFirstPlace-none : (u : ℕ) → u ≡ w → n < w → h ≡ 0 → IsFirstPlace w x value n u
  IsFirstPlace-none u width fits none = record {
    above = omega arith;
    within = omega arith;
    there = λ inside. absurd (omega arith);
    between = λ i from below. high-without i from (omega arith) (ap (place i) none ∙ place-zero i);
  }

  pub IsFirstPlace-zeros : (j : ℕ) → n < w → HasZerosLow w h j → IsFirstPlace w x value n j
  IsFirstPlace-zeros j fits zeros = record {
    above = elim (cases_lt j w) [
      | inl inside ↦ (high-with j inside (zeros.first inside)).0
      | inr past ↦ omega arith
    ];
    within = zeros.bound;
    there = λ inside. (high-with j inside (zeros.first inside)).1;
    between = λ i from below.
        high-without i from (omega arith) (zeros.zeros i below);
  }

-- and h those below place n
module _ (w n x v mask h : ℕ) (value : Bool) (fits : n ≤ w)
    (bits : HasPlaces w v (λ j. has_value value (place j x)))
    (low : HasPlaces w mask (λ j. nat_lt j n))
    (both : HasPlaces w h (λ j. place j v && place j mask)) where
  low_is : (j : ℕ) → j < w → place j h ≡ (has_value value (place j x) && nat_lt j n)
  low_is j inside = both.each j inside ∙ ap (λ b. b && place j mask) (bits.each j inside)
      ∙ ap (λ b. has_value value (place j x) && b) (low.each j inside)

  low-without : (j : ℕ) → j < n → place j h ≡ false → place j x ≢ value
  low-without j below none same = false≢true (sym none ∙ low_is j (omega arith)
      ∙ and_from (has_value value (place j x)) (nat_lt j n)
      (has_value-same value (place j x) same) (lt-ltb j n below))

  low-with : (j : ℕ) → j < w → place j h ≡ true → (j < n) × (place j x ≡ value)
  low-with j inside there =
      let parts = and_parts (has_value value (place j x)) (nat_lt j n) (sym (low_is j inside)
      ∙ there) in (ltb-true j n parts.1, value_is value (place j x) parts.0)

  pub IsLastPlace-none : h ≡ 0 → IsLastPlace x value n 0
  IsLastPlace-none none = record {
    within = omega arith;
    there = λ some. absurd (omega arith);
    between = λ i from below. low-without i below (ap (place i) none ∙ place-zero i);
  }

  pub IsLastPlace-zeros : (u z : ℕ) → u ≡ w → HasZerosHigh w h z → IsLastPlace x value n (u - z)
  IsLastPlace-zeros u z width zeros = record {
    within = elim (cases_lt z w) [
      | inl some ↦ omega (arith, (low-with (w - 1 - z) (omega arith) (zeros.last some)).0)
      | inr none ↦ omega arith
    ];
    there = λ some.
        let here : w - 1 - z ≡ u - z - 1 = omega arith in
        ap (λ j. place j x) (sym here) ∙ (low-with (w - 1 - z) (omega arith) (zeros.last
        (omega arith))).1;
    between = λ i from below.
        let back : w - 1 - (w - 1 - i) ≡ i = omega arith in
        low-without i below (ap (λ j. place j h) (sym back)
        ∙ zeros.zeros (w - 1 - i) (omega arith));
  }

-- ---- a block that isn't the one without a bit of the value has one

other_place : (w x j : ℕ) (value : Bool) → x < 2 ^ w → j < w → place j x ≢ value
    → place j x ≡ place j (cond value 0 (2 ^ w - 1))
other_place w x j value within inside other = by value (place j x) other
  where
    by : (value b : Bool) → b ≢ value → b ≡ place j (cond value 0 (2 ^ w - 1))
    by true true other = absurd (other refl)
    by true false other = sym (place-zero j)
    by false true other = sym (place-ones w j inside)
    by false false other = absurd (other refl)

skip-lt : (w : ℕ) (value : Bool) → cond value 0 (2 ^ w - 1) < 2 ^ w
skip-lt w true = pow_pos w
skip-lt w false = omega (arith, pow_pos w)

module _ (w x skip : ℕ) (value : Bool) (within : x < 2 ^ w)
    (without : skip ≡ cond value 0 (2 ^ w - 1)) (other : x ≢ skip) where
  some_place : ((j : ℕ) → j < w → place j x ≢ value) → ⊥
  some_place none = other (same_from_places w x (cond value 0 (2 ^ w - 1)) within (skip-lt w value)
      (λ j inside. other_place w x j value within inside (none j inside)) ∙ sym without)

  pub first-inside : (j : ℕ) → IsFirstPlace w x value 0 j → j < w
  first-inside j first = elim (cases_lt j w) [
    | inl inside ↦ inside
    | inr past ↦ absurd (some_place (λ i inside. first.between i (omega arith) (omega arith)))
  ]

  last-some : (n j : ℕ) → n ≡ w → IsLastPlace x value n j → 0 < j
  last-some n j whole last = elim (cases_lt 0 j) [
    | inl some ↦ some
    | inr none ↦ absurd (some_place (λ i inside. last.between i (omega arith) (omega arith)))
  ]

-- ---- over blocks

module _ (w : ℕ) (wide : 0 < w) (n : ℕ) where
  -- the block of index n is the last one that n + 1 bits need, and n bits need no other
  next_block : n < (n / w + 1) * w
  next_block = omega (arith, div-add-mod' n w, mod-lt n wide, product-more w (n / w))

  pub need_most : need n w ≤ n / w + 1
  need_most = need_least w wide n (n / w + 1) (omega (arith, next_block))

  pub need_one_more : need (n + 1) w ≡ n / w + 1
  need_one_more = omega (
    arith,
    need_least w wide (n + 1) (n / w + 1) (omega (arith, next_block)),
    div-lt-need w wide (n + 1) n (omega arith),
  )

module _ (w : ℕ) (wide : 0 < w) (xs : List ℕ) (value : Bool) where
  none_joined : (a m b : ℕ) → HasNoBit w xs value a m → HasNoBit w xs value m b
      → HasNoBit w xs value a b
  none_joined a m b low high i from below = elim (cases_lt i m) [
    | inl h ↦ low i from h
    | inr h ↦ high i h below
  ]

  module _ (k x : ℕ) (read : x ≡ get_or xs k 0) where
    bit-place : (j : ℕ) → j < w → bit_at xs w (k * w + j) ≡ place j x
    bit-place j inside = bit_at-in_block xs w k j inside ∙ ap (place j) (sym read)

    none_between : (a b : ℕ) → b ≤ w → ((i : ℕ) → a ≤ i → i < b → place i x ≢ value)
        → HasNoBit w xs value (k * w + a) (k * w + b)
    none_between a b fits none i from below same =
        let back : k * w + (i - k * w) ≡ i = omega arith in
        none (i - k * w) (omega arith) (omega arith) (sym (bit-place (i - k * w) (omega arith))
        ∙ ap (bit_at xs w) back ∙ same)

  none_skipped : (skip a b : ℕ) → skip ≡ cond value 0 (2 ^ w - 1)
      → AreSkipped skip (λ q. get_or xs q 0) a b
      → HasNoBit w xs value (a * w) (b * w)
  none_skipped skip a b is all i from below same =
      let there = sym (bit_at-skipped w wide xs skip a b all i from below) ∙ same in
      false≢true (sym (without_value w skip (i % w) value is (mod-lt i wide))
      ∙ has_value-same value (place (i % w) skip) there)

-- ---- a search

module _ {X : Type 0} (w : ℕ) (wide : 0 < w) (number : X → ℕ) (value : Bool) (x y : Reading X) where
  abbrev xs : List ℕ
  xs = map number x.items

  module _ (from stop : ℕ) (some : from < stop) where
    -- it ends in block k
    FindsUp-block : (k j i : ℕ) (block : X) → k * w < stop → number block ≡ get_or xs k 0 → j < w
        → place j (number block) ≡ value → from ≤ k * w + j → HasNoBit w xs value from (k * w + j)
        → y.reads + (from / w + 1) ≡ x.reads + (k + 1) → y.items ≡ x.items
        → i ≡ min (k * w + j) stop → FindsUp w number value x y from stop i block
    FindsUp-block k j i block begins read inside there above none reads items is =
        let at : (k * w + j) / w ≡ k = div-mul-add k w j inside in record {
          above = omega arith;
          within = omega arith;
          there = λ below.
              let here : i ≡ k * w + j = omega arith in
              ap (bit_at xs w) here ∙ bit-place w wide xs value k (number block) read j inside
              ∙ there;
          between = λ n low high. none n low (omega arith);
          block = λ below.
              let here : i ≡ k * w + j = omega arith in
              read ∙ ap (λ q. get_or xs q 0) (sym (ap (λ n. n / w) here ∙ at));
          reads = elim (cases_lt i stop) [
            | inl below ↦
                let here : i ≡ k * w + j = omega arith in
                omega (arith, ap (λ n. n / w) here, lt-need w wide stop k begins)
            | inr past ↦
                let here : i ≡ stop = omega arith in
                omega (
                  arith,
                  ap (λ n. n / w) here,
                  lt-need w wide stop k begins,
                  need_least w wide stop (k + 1) (omega (arith, product-more w k)),
                  need_most w wide stop,
                )
          ];
          items = items;
        }

    module _ {n j : ℕ} (block : X) (at : n ≡ from % w)
        (read : number block ≡ get_or xs (from / w) 0)
        (first : IsFirstPlace w (number block) value n j) where
      passed : HasNoBit w xs value from (from / w * w + j)
      passed =
          let here : from / w * w + n ≡ from = omega (arith, div-add-mod' from w) in λ i low.
          none_between w wide xs value (from / w) (number block) read n j first.within
          first.between i (omega arith)

      -- in the block in hand
      pub FindsUp-here : (i : ℕ) → j < w → y.reads ≡ x.reads → y.items ≡ x.items
          → i ≡ min (from / w * w + j) stop → FindsUp w number value x y from stop i block
      FindsUp-here i inside reads items is = FindsUp-block (from / w) j i block
          (omega (arith, div-add-mod' from w)) read inside (first.there inside)
          (omega (arith, div-add-mod' from w)) passed (omega arith) items is

      module _ (skip : X) (without : number skip ≡ cond value 0 (2 ^ w - 1)) (past : w ≤ j)
          {a b : ℕ} (begin : a ≡ from / w + 1) (end : b ≡ need stop w) where
        passed_block : HasNoBit w xs value from (a * w)
        passed_block i low high = passed i low (omega (
          arith,
          ap (λ k. k * w) begin,
          product-more w (from / w),
        ))

        -- in none
        pub FindsUp-none : (found : X) → Scans Front number skip x y a b None
            → FindsUp w number value x y from stop stop found
        FindsUp-none found scan = record {
          above = omega arith;
          within = omega arith;
          there = λ below. absurd (omega arith);
          between = λ i low high. none_joined w wide xs value from (a * w) (b * w) passed_block
              (none_skipped w wide xs value (number skip) a b without scan.found) i low
              (omega (arith, need_enough w wide stop, ap (λ k. k * w) end));
          block = λ below. absurd (omega arith);
          reads = omega (arith, need_most w wide stop, div-lt-need w wide stop from some);
          items = scan.items;
        }

        -- in one behind it
        pub FindsUp-behind : (p : ℕ × X) (m i : ℕ) → Scans Front number skip x y a b (Some p)
            → number p.1 < 2 ^ w → IsFirstPlace w (number p.1) value 0 m
            → i ≡ min (p.0 * w + m) stop → FindsUp w number value x y from stop i p.1
        FindsUp-behind p m i scan within head is =
            let k = p.0 in
            let read = scan.found.0.same in
            let inside = first-inside w (number p.1) (number skip) value within without
            scan.found.0.other m head in
            let below : k < need stop w = omega arith in
            let rises : from / w + 1 ≤ k = omega arith in
            let whole : k * w + 0 ≡ k * w = omega arith in
            FindsUp-block k m i p.1 (mul-lt_from_need w wide stop k below) read inside
            (head.there inside)
            (omega (arith, le_products k rises, div-add-mod' from w, mod-lt from wide))
            (λ q low high. none_joined w wide xs value from (a * w) (k * w + m) passed_block
            (none_joined w wide xs value (a * w) (k * w) (k * w + m)
            (none_skipped w wide xs value (number skip) a k without scan.found.1)
            (λ r least most. none_between w wide xs value k (number p.1) read 0 m head.within
            head.between r (omega arith) most)) q low high)
            (omega arith) scan.items is
          where
            le_products : (k : ℕ) → from / w + 1 ≤ k → from / w * w + w ≤ k * w
            le_products k h = omega (
              arith,
              product-more w (from / w),
              mul-le (from / w + 1) w k w h (omega arith),
            )

  module _ (start from : ℕ) (order : start ≤ from) where
    start_block : start / w ≤ from / w
    start_block = le-div (start / w) from w wide (omega (arith, div-add-mod' start w))

    -- a search down ends in block k
    FindsBack-block : (k j i : ℕ) (block : X) → number block ≡ get_or xs k 0 → j ≤ w → 0 < j
        → place (j - 1) (number block) ≡ value → k * w + j ≤ from + 1
        → HasNoBit w xs value (k * w + j) (from + 1) → start / w ≤ k
        → y.reads + k ≡ x.reads + from / w → y.items ≡ x.items → i ≡ max start (k * w + j)
        → FindsBack w number value x y start from i block
    FindsBack-block k j i block read inside some there below none least reads items is =
        let last : start < i → i - 1 ≡ k * w + (j - 1) = λ above. omega arith in
        let at : start < i → (i - 1) / w ≡ k =
        λ above. ap (λ n. n / w) (last above) ∙ div-mul-add k w (j - 1) (omega arith) in record {
          above = omega arith;
          within = omega arith;
          there = λ above. ap (bit_at xs w) (last above)
              ∙ bit-place w wide xs value k (number block) read (j - 1) (omega arith) ∙ there;
          between = λ n low high. none n (omega arith) high;
          block = λ above. read ∙ ap (λ q. get_or xs q 0) (sym (at above));
          reads = elim (cases_lt start i) [
            | inl above ↦ omega (arith, at above)
            | inr here ↦
                let same : i ≡ start = omega arith in
                let more : k ≤ start / w = le-div k start w wide (omega arith) in
                let less : (start - 1) / w ≤ start / w =
                le-div ((start - 1) / w) start w wide (omega (arith, div-add-mod' (start - 1) w)) in
                omega (arith, ap (λ n. (n - 1) / w) same)
          ];
          items = items;
        }

    module _ {n j : ℕ} (block : X) (at : n ≡ from % w + 1)
        (read : number block ≡ get_or xs (from / w) 0)
        (last : IsLastPlace (number block) value n j) where
      whole_is : from / w * w + n ≡ from + 1
      whole_is = omega (arith, div-add-mod' from w)

      fits_in : n ≤ w
      fits_in = omega (arith, mod-lt from wide)

      passed_down : HasNoBit w xs value (from / w * w + j) (from + 1)
      passed_down i low high = none_between w wide xs value (from / w) (number block) read j n
          fits_in last.between i low (omega (arith, whole_is))

      -- in the block in hand
      pub FindsBack-here : (i : ℕ) → 0 < j → y.reads ≡ x.reads → y.items ≡ x.items
          → i ≡ max start (from / w * w + j) → FindsBack w number value x y start from i block
      FindsBack-here i some reads items is = FindsBack-block (from / w) j i block read
          (omega (arith, last.within, fits_in)) some (last.there some)
          (omega (arith, last.within, whole_is)) passed_down start_block (omega arith) items is

      module _ (skip : X) (without : number skip ≡ cond value 0 (2 ^ w - 1)) (none : j ≤ 0)
          {a b : ℕ} (begin : a ≡ start / w) (end : b ≡ from / w) where
        passed_all : HasNoBit w xs value (b * w) (from + 1)
        passed_all i low high = passed_down i (omega (arith, ap (λ k. k * w) end)) high

        -- in none
        pub FindsBack-none : (found : X) → Scans Back number skip x y a b None
            → FindsBack w number value x y start from start found
        FindsBack-none found scan = record {
          above = omega arith;
          within = omega arith;
          there = λ above. absurd (omega arith);
          between = λ i low high. none_joined w wide xs value (a * w) (b * w) (from + 1)
              (none_skipped w wide xs value (number skip) a b without scan.found) passed_all i
              (omega (arith, div-add-mod' start w, ap (λ k. k * w) begin)) high;
          block = λ above. absurd (omega arith);
          reads =
              let less : (start - 1) / w ≤ start / w =
              le-div ((start - 1) / w) start w wide (omega (arith, div-add-mod' (start - 1) w)) in
              omega (arith, start_block);
          items = scan.items;
        }

        -- in one before it
        pub FindsBack-before : (p : ℕ × X) (m c i : ℕ) → Scans Back number skip x y a b (Some p)
            → number p.1 < 2 ^ w → c ≡ w → IsLastPlace (number p.1) value c m
            → i ≡ max start (p.0 * w + m) → FindsBack w number value x y start from i p.1
        FindsBack-before p m c i scan within full tail is =
            let q = p.0 in
            let read = scan.found.0.same in
            let some = last-some w (number p.1) (number skip) value within without
            scan.found.0.other c m full tail in
            let less : q + 1 ≤ b = omega arith in
            let more = product-more w q in
            let rises = mul-le (q + 1) w b w less (omega arith) in
            let high : b * w ≤ from = omega (arith, div-add-mod' from w, ap (λ k. k * w) end) in
            FindsBack-block q m i p.1 read (omega (arith, tail.within)) some (tail.there some)
            (omega (arith, tail.within))
            (λ r low high. none_joined w wide xs value (q * w + m) ((q + 1) * w) (from + 1)
            (λ s least most. none_between w wide xs value q (number p.1) read m c
            (omega arith) tail.between s least (omega arith))
            (none_joined w wide xs value ((q + 1) * w) (b * w) (from + 1)
            (none_skipped w wide xs value (number skip) (q + 1) b without scan.found.1) passed_all)
            r low high)
            (omega arith) (omega arith) scan.items is
