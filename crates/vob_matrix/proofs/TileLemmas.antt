-- Words of a tile that exchange groups of their places, until it is transposed.
use Rattle.std.proofs.Common.{◌≡◌, ◌≢◌, ◌⊎◌, ℕ, zero, suc, ◌+◌, ◌-◌, ◌*◌, ◌/◌, ◌%◌, ◌<◌, ◌≤◌, nat_le, nat_lt}
use Rattle.std.proofs.Common.{Bool, true, false, not, ◌&&◌, ◌||◌, List, length, set, refl, sym, ap, ◌∙◌}
use Rattle.std.proofs.Common.{subst, arith, inl, inr}
use Rattle.std.proofs.Math.Bool.{and-true, or-false}
use Rattle.std.proofs.lemmas.Bool.{cases_eq, cases_lt, and_parts, and_left, and_right, lt-leb}
use Rattle.std.proofs.lemmas.Bool.{le-leb, lt-ltb}
use Rattle.std.proofs.lemmas.List.{length-set, get_or-set_same, get_or-set_other}
use Rattle.std.proofs.lemmas.Nat.{mul-add-lt}
use Rattle.vob_block.specs.Places.{place, HasPlaces}
use Rattle.vob_matrix.specs.Tiles.{word, first_at, second_at, IsMask, JoinsFirst, JoinsSecond}
use Rattle.vob_matrix.specs.Tiles.{AreExchanged, IsStage, AreSquaresTurned, AreTurned}

-- ---- a mask that is looked through

abbrev all_below : ℕ → (ℕ → Bool) → Bool
all_below zero f = true
all_below (suc n) f = f n && all_below n f

all_below-at : (n : ℕ) (f : ℕ → Bool) (k : ℕ) → all_below n f ≡ true → k < n → f k ≡ true
all_below-at zero f k all less = absurd (omega arith)
all_below-at (suc n) f k all less =
    let both = and_parts (f n) (all_below n f) all in
    elim (cases_eq k n) [
      | inl here ↦ ap f here ∙ both.0
      | inr other ↦ all_below-at n f k both.1 (omega arith)
    ]

not-true : (b : Bool) → not b ≡ true → b ≡ false
not-true false is = refl
not-true true is = sym is

abbrev pub is_mask : ℕ → ℕ → ℕ → Bool
is_mask group pairs mask = all_below pairs (λ b. all_below group (λ d.
    place (first_at group b d) mask && not (place (second_at group b d) mask)))

pub IsMask-looked : (group pairs mask : ℕ) → is_mask group pairs mask ≡ true →
    IsMask group pairs mask
IsMask-looked group pairs mask all =
    let each = λ (b d : ℕ) (p : b < pairs) (q : d < group).
    and_parts (place (first_at group b d) mask) (not (place (second_at group b d) mask))
    (all_below-at group
    (λ e. place (first_at group b e) mask && not (place (second_at group b e) mask)) d
    (all_below-at pairs (λ e. all_below group (λ f.
    place (first_at group e f) mask && not (place (second_at group e f) mask))) b all p) q) in
    record {
      first = λ b d p q. (each b d p q).0;
      second = λ b d p q. not-true (place (second_at group b d) mask) (each b d p q).1;
    }

-- ---- groups of two words side by side

module _ (group pairs mask : ℕ) (whole : pairs * (2 * group) ≡ 64)
    (has : IsMask group pairs mask) where
  inside : (b d : ℕ) → b < pairs → d < group → second_at group b d < 64
  inside b d p q =
      omega (arith, mul-add-lt b (2 * group) (group + d) pairs p (omega arith), whole)

  module _ (low high : ℕ) where
    module _ (own other moved joined : ℕ)
        (kept : HasPlaces 64 own (λ j. place j low && place j mask))
        (taken : HasPlaces 64 other (λ j. place j high && place j mask))
        (up : HasPlaces 64 moved (λ j. nat_le group j && place (j - group) other))
        (both : HasPlaces 64 joined (λ j. place j own || place j moved)) where
      -- nothing was moved to a first group
      nothing : (b d : ℕ) → b < pairs → d < group → group ≤ first_at group b d →
          place (first_at group b d - group) other ≡ false
      nothing zero d p q from = absurd (omega arith)
      nothing (suc b) d p q from =
          let at : first_at group (suc b) d - group ≡ second_at group b d = omega arith in
          ap (λ i. place i other) at
          ∙ taken.each (second_at group b d) (inside b d (omega arith) q)
          ∙ and_right (place (second_at group b d) high) (place (second_at group b d) mask)
          (has.second b d (omega arith) q)

      not_moved : (b d : ℕ) → b < pairs → d < group → place (first_at group b d) moved ≡ false
      not_moved b d p q =
          let j = first_at group b d in
          up.each j (omega (arith, inside b d p q)) ∙ elim (cases_lt j group) [
            | inl below ↦ and_left (nat_le group j) (place (j - group) other)
                (lt-leb group j below)
            | inr past ↦ and_right (nat_le group j) (place (j - group) other)
                (nothing b d p q past)
          ]

      pub JoinsFirst-joined : JoinsFirst group pairs low high joined
      JoinsFirst-joined = record {
        first = λ b d p q.
            let j = first_at group b d in
            let less : j < 64 = omega (arith, inside b d p q) in
            both.each j less ∙ ap (λ t. place j own || t) (not_moved b d p q)
            ∙ or-false (place j own) ∙ kept.each j less
            ∙ ap (λ t. place j low && t) (has.first b d p q) ∙ and-true (place j low);
        second = λ b d p q.
            let j = second_at group b d in
            let i = first_at group b d in
            let less = inside b d p q in
            let at : j - group ≡ i = omega arith in
            both.each j less
            ∙ ap (λ t. t || place j moved) (kept.each j less
            ∙ and_right (place j low) (place j mask) (has.second b d p q))
            ∙ up.each j less
            ∙ ap (λ t. t && place (j - group) other) (le-leb group j (omega arith))
            ∙ ap (λ k. place k other) at ∙ taken.each i (omega (arith, less))
            ∙ ap (λ t. place i high && t) (has.first b d p q) ∙ and-true (place i high);
      }

    module _ (moved own off other joined : ℕ)
        (down : HasPlaces 64 moved (λ j. nat_lt (j + group) 64 && place (j + group) low))
        (taken : HasPlaces 64 own (λ j. place j moved && place j mask))
        (turned : HasPlaces 64 off (λ j. not (place j mask)))
        (kept : HasPlaces 64 other (λ j. place j high && place j off))
        (both : HasPlaces 64 joined (λ j. place j own || place j other)) where
      pub JoinsSecond-joined : JoinsSecond group pairs low high joined
      JoinsSecond-joined = record {
        first = λ b d p q.
            let j = first_at group b d in
            let above = inside b d p q in
            let less : j < 64 = omega (arith, above) in
            let at : j + group ≡ second_at group b d = omega arith in
            both.each j less
            ∙ ap (λ t. place j own || t) (kept.each j less ∙ and_right (place j high) (place j off)
            (turned.each j less ∙ ap not (has.first b d p q)))
            ∙ or-false (place j own) ∙ taken.each j less
            ∙ ap (λ t. place j moved && t) (has.first b d p q) ∙ and-true (place j moved)
            ∙ down.each j less
            ∙ ap (λ t. t && place (j + group) low)
            (lt-ltb (j + group) 64 (omega (arith, above, at)))
            ∙ ap (λ k. place k low) at;
        second = λ b d p q.
            let j = second_at group b d in
            let less = inside b d p q in
            both.each j less
            ∙ ap (λ t. t || place j other) (taken.each j less
            ∙ and_right (place j moved) (place j mask) (has.second b d p q))
            ∙ kept.each j less
            ∙ ap (λ t. place j high && t) (turned.each j less ∙ ap not (has.second b d p q))
            ∙ and-true (place j high);
      }

-- ---- words that exchange groups, one pair after another

JoinsFirst-at : (group pairs a b c x y z : ℕ) → a ≡ x → b ≡ y → c ≡ z →
    JoinsFirst group pairs a b c → JoinsFirst group pairs x y z
JoinsFirst-at group pairs a b c x y z p q r h = subst (λ n. JoinsFirst group pairs n y z) p
    (subst (λ n. JoinsFirst group pairs a n z) q (subst (JoinsFirst group pairs a b) r h))

JoinsSecond-at : (group pairs a b c x y z : ℕ) → a ≡ x → b ≡ y → c ≡ z →
    JoinsSecond group pairs a b c → JoinsSecond group pairs x y z
JoinsSecond-at group pairs a b c x y z p q r h = subst (λ n. JoinsSecond group pairs n y z) p
    (subst (λ n. JoinsSecond group pairs a n z) q (subst (JoinsSecond group pairs a b) r h))

pub AreExchanged-start : (group pairs first : ℕ) (words : List ℕ) →
    AreExchanged group pairs first 0 words words
AreExchanged-start group pairs first words = record {
  lows = λ c less. absurd (omega (arith, less));
  highs = λ c less. absurd (omega (arith, less));
  others = λ i apart. refl;
}

-- a word that isn't written stays
word-other : (words : List ℕ) (low high x y i : ℕ) → i ≢ low → i ≢ high →
    word (set (set words low x) high y) i ≡ word words i
word-other words low high x y i p q =
    get_or-set_other (set words low x) high i y 0 q ∙ get_or-set_other words low i x 0 p

module _ (group pairs first k : ℕ) (before mid : List ℕ) (low high x y : ℕ) (below : k < group)
    (inside : first + 2 * group ≤ length mid) (here : low ≡ first + k)
    (there : high ≡ first + (group + k)) (h : AreExchanged group pairs first k before mid)
    (own : JoinsFirst group pairs (word mid low) (word mid high) x)
    (other : JoinsSecond group pairs (word mid low) (word mid high) y) where
  -- both words are as before
  low-is : (c : ℕ) → c ≡ k → word mid low ≡ word before (first + c)
  low-is c same = ap (word mid) (here ∙ ap (λ n. first + n) (sym same))
      ∙ h.others (first + c) (λ d less. (λ e. omega (arith, e, less, same), λ e. omega (arith, e, less, same)))

  high-is : (c : ℕ) → c ≡ k → word mid high ≡ word before (first + (group + c))
  high-is c same = ap (word mid) (there ∙ ap (λ n. first + (group + n)) (sym same))
      ∙ h.others (first + (group + c))
      (λ d less. (λ e. omega (arith, e, less, same), λ e. omega (arith, e, less, same)))

  written-low : (c : ℕ) → c ≡ k → word (set (set mid low x) high y) (first + c) ≡ x
  written-low c same =
      let at : first + c ≡ low = omega (arith, here, same) in
      let less : low < length mid = omega arith in
      ap (word (set (set mid low x) high y)) at
      ∙ get_or-set_other (set mid low x) high low y 0 (λ e. omega (arith, e))
      ∙ get_or-set_same mid low x 0 less

  written-high : (c : ℕ) → c ≡ k → word (set (set mid low x) high y) (first + (group + c)) ≡ y
  written-high c same =
      let at : first + (group + c) ≡ high = omega (arith, there, same) in
      ap (word (set (set mid low x) high y)) at
      ∙ get_or-set_same (set mid low x) high y 0
      (omega (arith, length-set mid low x, there, below, inside))

  stays : (i : ℕ) → i ≢ first + k → i ≢ first + (group + k) →
      word (set (set mid low x) high y) i ≡ word mid i
  stays i p q = word-other mid low high x y i (λ e. p (e ∙ here)) (λ e. q (e ∙ there))

  pub AreExchanged-more :
      AreExchanged group pairs first (k + 1) before (set (set mid low x) high y)
  AreExchanged-more = record {
    lows = λ c less. elim (cases_eq c k) [
      | inl same ↦ JoinsFirst-at group pairs _ _ _ _ _ _ (low-is c same) (high-is c same)
          (sym (written-low c same)) own
      | inr apart ↦ subst (JoinsFirst group pairs (word before (first + c))
          (word before (first + (group + c))))
          (sym (stays (first + c) (λ e. omega (arith, e, apart)) (λ e. omega (arith, e, less))))
          (h.lows c (omega (arith, less, apart)))
    ];
    highs = λ c less. elim (cases_eq c k) [
      | inl same ↦ JoinsSecond-at group pairs _ _ _ _ _ _ (low-is c same) (high-is c same)
          (sym (written-high c same)) other
      | inr apart ↦ subst (JoinsSecond group pairs (word before (first + c))
          (word before (first + (group + c))))
          (sym (stays (first + (group + c)) (λ e. omega (arith, e, below, less, apart))
          (λ e. omega (arith, e, apart))))
          (h.highs c (omega (arith, less, apart)))
    ];
    others = λ i apart.
        stays i (apart k (omega arith)).0 (apart k (omega arith)).1
        ∙ h.others i (λ c less. apart c (omega (arith, less)));
  }

-- ---- so in each pair of groups of words

pub IsStage-start : (group pairs : ℕ) (words : List ℕ) → IsStage group pairs 0 words words
IsStage-start group pairs words = record {
  lows = λ a c less. absurd (omega (arith, less));
  highs = λ a c less. absurd (omega (arith, less));
  others = λ i past. refl;
}

module _ (group pairs k : ℕ) (before mid after : List ℕ) (h : IsStage group pairs k before mid)
    (made : AreExchanged group pairs (k * (2 * group)) group mid after) where
  apart : (i : ℕ) → (i < k * (2 * group)) ⊎ ((k + 1) * (2 * group) ≤ i) →
      word after i ≡ word mid i
  apart i out = made.others i (λ c less. elim out [
    | inl under ↦ (λ e. omega (arith, e, under), λ e. omega (arith, e, under))
    | inr past ↦ (λ e. omega (arith, e, past, less), λ e. omega (arith, e, past, less))
  ])

  before-first : (a c : ℕ) → a < k → c < group → second_at group a c < k * (2 * group)
  before-first a c p q = omega (arith, mul-add-lt a (2 * group) (group + c) k p (omega arith))

  unchanged : (a i : ℕ) → a ≡ k → a * (2 * group) ≤ i → word mid i ≡ word before i
  unchanged a i same from =
      h.others i (omega (arith, from, ap (λ n. n * (2 * group)) same))

  pub IsStage-more : IsStage group pairs (k + 1) before after
  IsStage-more = record {
    lows = λ a c p q. elim (cases_eq a k) [
      | inl same ↦
          let fact = subst (λ n. JoinsFirst group pairs (word mid (first_at group n c))
          (word mid (second_at group n c)) (word after (first_at group n c))) (sym same)
          (made.lows c q) in
          JoinsFirst-at group pairs _ _ _ _ _ _
          (unchanged a (first_at group a c) same (omega arith))
          (unchanged a (second_at group a c) same (omega arith)) refl fact
      | inr other ↦
          let less : a < k = omega (arith, p, other) in
          subst (JoinsFirst group pairs (word before (first_at group a c))
          (word before (second_at group a c)))
          (sym (apart (first_at group a c) (inl (omega (arith, before-first a c less q)))))
          (h.lows a c less q)
    ];
    highs = λ a c p q. elim (cases_eq a k) [
      | inl same ↦
          let fact = subst (λ n. JoinsSecond group pairs (word mid (first_at group n c))
          (word mid (second_at group n c)) (word after (second_at group n c))) (sym same)
          (made.highs c q) in
          JoinsSecond-at group pairs _ _ _ _ _ _
          (unchanged a (first_at group a c) same (omega arith))
          (unchanged a (second_at group a c) same (omega arith)) refl fact
      | inr other ↦
          let less : a < k = omega (arith, p, other) in
          subst (JoinsSecond group pairs (word before (first_at group a c))
          (word before (second_at group a c)))
          (sym (apart (second_at group a c) (inl (before-first a c less q))))
          (h.highs a c less q)
    ];
    others = λ i past.
        apart i (inr past) ∙ h.others i (omega (arith, past));
  }

-- ---- squares that are transposed

pub AreSquaresTurned-start : (words : List ℕ) → AreSquaresTurned 64 1 words words
AreSquaresTurned-start words = record {
  each = λ a b c d p q less within.
      let same : a ≡ b = omega (arith, p, q) in
      ap (λ n. place (n * 64 + d) (word words (a * 64 + c))) (sym same)
      ∙ ap (λ n. place (a * 64 + d) (word words (n * 64 + c))) same;
}

-- a number is twice another, or one more
halved : (n : ℕ) → (half : ℕ) × ((n ≡ 2 * half) ⊎ (n ≡ 2 * half + 1))
halved n = (
  n / 2,
  elim (cases_eq (n % 2) 0) [
    | inl even ↦ inl (omega (arith, even))
    | inr odd ↦ inr (omega (arith, odd))
  ],
)

module _ (group count : ℕ) (before mid after : List ℕ)
    (h : AreSquaresTurned (2 * group) count before mid)
    (stage : IsStage group count count mid after) where
  first-is : (n half c : ℕ) → n ≡ 2 * half → n * group + c ≡ first_at group half c
  first-is n half c is = ap (λ m. m * group + c) is ∙ omega arith

  second-is : (n half c : ℕ) → n ≡ 2 * half + 1 → n * group + c ≡ second_at group half c
  second-is n half c is = ap (λ m. m * group + c) is ∙ omega arith

  -- the numbers of the words and the places, in pairs
  turned : (i j k l i' j' k' l' : ℕ) → i ≡ i' → j ≡ j' → k ≡ k' → l ≡ l' →
      place j' (word after i') ≡ place k' (word before l') →
      place j (word after i) ≡ place k (word before l)
  turned i j k l i' j' k' l' p q r s fact =
      ap (λ n. place n (word after i)) q ∙ ap (λ n. place j' (word after n)) p ∙ fact
      ∙ ap (λ n. place k' (word before n)) (sym s) ∙ ap (λ n. place n (word before l)) (sym r)

  pub AreSquaresTurned-more : AreSquaresTurned group (2 * count) before after
  AreSquaresTurned-more = record {
    each = λ a b c d p q less within.
        let x = halved a in
        let y = halved b in
        elim x.1 [
          | inl even ↦ elim y.1 [
            | inl both ↦ turned _ _ _ _ _ _ _ _ (first-is a x.0 c even) (first-is b y.0 d both)
                (first-is a x.0 d even) (first-is b y.0 c both)
                ((stage.lows x.0 c (omega (arith, p, even)) less).first y.0 d
                (omega (arith, q, both)) within
                ∙ h.each x.0 y.0 c d (omega (arith, p, even)) (omega (arith, q, both))
                (omega (arith, less)) (omega (arith, within)))
            | inr odd ↦ turned _ _ _ _ _ _ _ _ (first-is a x.0 c even) (second-is b y.0 d odd)
                (first-is a x.0 d even) (second-is b y.0 c odd)
                ((stage.lows x.0 c (omega (arith, p, even)) less).second y.0 d
                (omega (arith, q, odd)) within
                ∙ h.each x.0 y.0 (group + c) d (omega (arith, p, even)) (omega (arith, q, odd))
                (omega (arith, less)) (omega (arith, within)))
          ]
          | inr odd ↦ elim y.1 [
            | inl even ↦ turned _ _ _ _ _ _ _ _ (second-is a x.0 c odd) (first-is b y.0 d even)
                (second-is a x.0 d odd) (first-is b y.0 c even)
                ((stage.highs x.0 c (omega (arith, p, odd)) less).first y.0 d
                (omega (arith, q, even)) within
                ∙ h.each x.0 y.0 c (group + d) (omega (arith, p, odd)) (omega (arith, q, even))
                (omega (arith, less)) (omega (arith, within)))
            | inr both ↦ turned _ _ _ _ _ _ _ _ (second-is a x.0 c odd) (second-is b y.0 d both)
                (second-is a x.0 d odd) (second-is b y.0 c both)
                ((stage.highs x.0 c (omega (arith, p, odd)) less).second y.0 d
                (omega (arith, q, both)) within
                ∙ h.each x.0 y.0 (group + c) (group + d) (omega (arith, p, odd))
                (omega (arith, q, both)) (omega (arith, less)) (omega (arith, within)))
          ]
        ];
  }

pub AreTurned-whole : (before after : List ℕ) → AreSquaresTurned 1 64 before after →
    AreTurned before after
AreTurned-whole before after h = record {
  each = λ i j p q.
      let own : i ≡ i * 1 + 0 = omega arith in
      let other : j ≡ j * 1 + 0 = omega arith in
      ap (λ n. place n (word after i)) other ∙ ap (λ n. place (j * 1 + 0) (word after n)) own
      ∙ h.each i j 0 0 p q (omega arith) (omega arith)
      ∙ ap (λ n. place (i * 1 + 0) (word before n)) (sym other)
      ∙ ap (λ n. place n (word before j)) (sym own);
}
