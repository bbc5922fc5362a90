-- Words of eight bytes, and the places of each byte reversed.
use Rattle.std.specs.Int.{w64, from_le_bytes, sum_through, byte_worth}
use Rattle.std.proofs.Common.{◌≡◌, ℕ, zero, suc, ◌+◌, ◌-◌, ◌*◌, ◌/◌, ◌%◌, ◌^◌, ◌<◌, ◌≤◌, Bool, true}
use Rattle.std.proofs.Common.{false, not, ◌&&◌, ◌||◌, cond, List, get_or, eqb, leb, ltb, refl, sym}
use Rattle.std.proofs.Common.{ap, ◌∙◌, arith, inl, inr}
use Rattle.std.proofs.lemmas.Bool.{cases_lt, cases_eq, eqb-true, ltb-true, false≢true, and_parts, or_right, or_from}
use Rattle.std.proofs.Math.Bool.{and-false}
use Rattle.std.proofs.lemmas.Nat.{pow-add, mul-le}
use Rattle.std.proofs.lemmas.Nat.Bits.{bit_at_cat_low, bit_at_cat_high}
use Rattle.vob_block.specs.Places.{place, HasPlaces}
use Rattle.vob_block.specs.Packing.{item}
use Rattle.vob_block.specs.Bytes.{bytes_list}
use Rattle.vob_block.proofs.ByteLemmas.{item-bytes_list}

-- ---- tests of all numbers below one

abbrev all_below : ℕ → (ℕ → Bool) → Bool
all_below zero t = true
all_below (suc n) t = t n && all_below n t

below_from_test : (n : ℕ) (t : ℕ → Bool) → all_below n t ≡ true → (j : ℕ) → j < n → t j ≡ true
below_from_test zero t e j h = absurd (omega arith)
below_from_test (suc n) t e j h = elim (cases_eq j n) [
  | inl same ↦ ap t same ∙ (and_parts (t n) (all_below n t) e).0
  | inr other ↦ below_from_test n t (and_parts (t n) (all_below n t) e).1 j (omega (arith, other))
]

-- ---- one exchange

-- where place j comes from
abbrev partner : ℕ → ℕ → ℕ → ℕ
partner s m j = cond (place j m) (j + s) (j - s)

-- place j comes from one other place alone
abbrev is_exchanged : ℕ → ℕ → ℕ → Bool
is_exchanged s m j = cond (place j m) (ltb (j + s) 64 && not (leb s j && place (j - s) m))
    (leb s j && place (j - s) m)

chosen : (b a p l q n : Bool) → cond b (a && not (l && n)) (l && n) ≡ true
    → (((a && p) && b) || (l && (q && n))) ≡ cond b p q
chosen true true true false q n h = refl
chosen true true false false q n h = refl
chosen true true true true q true h = absurd (false≢true h)
chosen true true false true q true h = absurd (false≢true h)
chosen true true true true true false h = refl
chosen true true true true false false h = refl
chosen true true false true true false h = refl
chosen true true false true false false h = refl
chosen true false p l q n h = absurd (false≢true h)
chosen false a p true true true h = or_right ((a && p) && false) true refl
chosen false a p true false true h = or_from ((a && p) && false) false (and-false (a && p)) refl
chosen false a p true q false h = absurd (false≢true h)
chosen false a p false q n h = absurd (false≢true h)

place-cond : (b : Bool) (i k x : ℕ) → cond b (place i x) (place k x) ≡ place (cond b i k) x
place-cond true i k x = refl
place-cond false i k x = refl

exchanged_place : (s m x y : ℕ) → all_below 64 (is_exchanged s m) ≡ true
    → HasPlaces 64 y (λ j. ((ltb (j + s) 64 && place (j + s) x) && place j m)
    || (leb s j && (place (j - s) x && place (j - s) m)))
    → (j : ℕ) → j < 64 → place j y ≡ place (partner s m j) x
exchanged_place s m x y test h j below =
    h.each j below ∙ chosen (place j m) (ltb (j + s) 64) (place (j + s) x) (leb s j)
    (place (j - s) x) (place (j - s) m) (below_from_test 64 (is_exchanged s m) test j below)
    ∙ place-cond (place j m) (j + s) (j - s) x

-- ---- three of them

abbrev ones : ℕ
ones = 6148914691236517205

abbrev twos : ℕ
twos = 3689348814741910323

abbrev fours : ℕ
fours = 1085102592571150095

abbrev is_turned : ℕ → Bool
is_turned j =
    let a = partner 4 fours j in
    let b = partner 2 twos a in
    ltb a 64 && (ltb b 64 && eqb (partner 1 ones b) (j / 8 * 8 + (7 - j % 8)))

-- exchanges of neighbours, of pairs and of fours reverse each byte
pub reversed_places : (x p q y : ℕ)
    → HasPlaces 64 p (λ j. ((ltb (j + 1) 64 && place (j + 1) x) && place j 6148914691236517205)
    || (leb 1 j && (place (j - 1) x && place (j - 1) 6148914691236517205)))
    → HasPlaces 64 q (λ j. ((ltb (j + 2) 64 && place (j + 2) p) && place j 3689348814741910323)
    || (leb 2 j && (place (j - 2) p && place (j - 2) 3689348814741910323)))
    → HasPlaces 64 y (λ j. ((ltb (j + 4) 64 && place (j + 4) q) && place j 1085102592571150095)
    || (leb 4 j && (place (j - 4) q && place (j - 4) 1085102592571150095)))
    → HasPlaces 64 y (λ j. place (j / 8 * 8 + (7 - j % 8)) x)
reversed_places x p q y first second third = record {
  each = λ j h.
      let a = partner 4 fours j in
      let b = partner 2 twos a in
      let target = j / 8 * 8 + (7 - j % 8) in
      let both = and_parts (ltb a 64) (ltb b 64 && eqb (partner 1 ones b) target)
      (below_from_test 64 is_turned refl j h) in
      let rest = and_parts (ltb b 64) (eqb (partner 1 ones b) target) both.1 in
      exchanged_place 4 fours q y refl third j h
      ∙ exchanged_place 2 twos p q refl second a (ltb-true a 64 both.0)
      ∙ exchanged_place 1 ones x p refl first b (ltb-true b 64 rest.0)
      ∙ ap (λ i. place i x) (eqb-true (partner 1 ones b) target rest.1);
}

-- ---- the word of eight bytes

pow-bytes : (n : ℕ) → 256 ^ n ≡ 2 ^ (8 * n)
pow-bytes zero = refl
pow-bytes (suc n) = ap (λ k. 256 ^ k) (omega arith) ∙ pow-add 256 n 1
    ∙ ap (λ z. z * 256) (pow-bytes n) ∙ sym (pow-add 2 (8 * n) 8) ∙ ap (λ k. 2 ^ k) (omega arith)

module _ (bs : List ℕ) (small : (i : ℕ) → get_or bs i 0 < 256) where
  -- the bytes up to one, and the next one above them
  next-sum : (k : ℕ) → sum_through (λ i. byte_worth i (get_or bs i 0)) (suc k)
      ≡ get_or bs (suc k) 0 * 2 ^ (8 * suc k) + sum_through (λ i. byte_worth i (get_or bs i 0)) k
  next-sum k = omega (arith, ap (λ p. get_or bs (suc k) 0 * p) (pow-bytes (suc k)))

  sum-lt : (k : ℕ) → sum_through (λ i. byte_worth i (get_or bs i 0)) k < 2 ^ (8 * suc k)
  sum-lt zero = small 0
  sum-lt (suc k) =
      let top = small (suc k) in
      let high : get_or bs (suc k) 0 * 2 ^ (8 * suc k) ≤ 255 * 2 ^ (8 * suc k) =
      mul-le (get_or bs (suc k) 0) (2 ^ (8 * suc k)) 255 (2 ^ (8 * suc k))
      (omega (arith, top)) (omega arith) in
      let whole : 2 ^ (8 * suc (suc k)) ≡ 256 * 2 ^ (8 * suc k) =
      ap (λ n. 2 ^ n) (omega arith) ∙ pow-add 2 8 (8 * suc k) in
      omega (arith, next-sum k, sum-lt k, high, whole)

  -- place j of the sum is one of byte j / 8
  pub place-sum : (k j : ℕ) → j < 8 * suc k → place j
      (sum_through (λ i. byte_worth i (get_or bs i 0)) k) ≡ place (j % 8) (get_or bs (j / 8) 0)
  place-sum zero j h =
      let low : j ≡ j % 8 = omega arith in
      let high : 0 ≡ j / 8 = omega arith in
      ap (λ i. place i (get_or bs 0 0)) low ∙ ap (λ q. place (j % 8) (get_or bs q 0)) high
  place-sum (suc k) j h = elim (cases_lt j (8 * suc k)) [
    | inl below ↦
        ap (place j) (next-sum k) ∙ ap (λ c. eqb c 1)
        (bit_at_cat_low (get_or bs (suc k) 0) (8 * suc k)
        (sum_through (λ i. byte_worth i (get_or bs i 0)) k) j below) ∙ place-sum k j below
    | inr above ↦
        let low : j - 8 * suc k ≡ j % 8 = omega arith in
        let high : suc k ≡ j / 8 = omega arith in
        ap (place j) (next-sum k) ∙ ap (λ c. eqb c 1)
        (bit_at_cat_high (get_or bs (suc k) 0) (8 * suc k)
        (sum_through (λ i. byte_worth i (get_or bs i 0)) k) j (sum-lt k) above)
        ∙ ap (λ i. place i (get_or bs (suc k) 0)) low ∙ ap (λ q. place (j % 8) (get_or bs q 0)) high
  ]

  -- its places, with each byte reversed, are the bits of the bytes
  pub reversed_bits : (y : ℕ) → HasPlaces 64 y
      (λ j. place (j / 8 * 8 + (7 - j % 8)) (from_le_bytes w64 bs))
      → HasPlaces 64 y (item (bytes_list bs))
  reversed_bits y h = record {
    each = λ j below.
        let i = j / 8 * 8 + (7 - j % 8) in
        let low : i % 8 ≡ 7 - j % 8 = omega arith in
        let high : i / 8 ≡ j / 8 = omega arith in
        h.each j below ∙ place-sum 7 i (omega arith) ∙ ap (λ r. place r (get_or bs (i / 8) 0)) low
        ∙ ap (λ q. place (7 - j % 8) (get_or bs q 0)) high ∙ sym (item-bytes_list bs j);
  }

-- bytes that are the same, up to zeros behind them, have the same bits
pub places_from_same : (w x : ℕ) (front bs : List ℕ)
    → ((k : ℕ) → get_or front k 0 ≡ get_or bs k 0) → HasPlaces w x (item (bytes_list front))
    → HasPlaces w x (item (bytes_list bs))
places_from_same w x front bs same h = record {
  each = λ j below.
      h.each j below ∙ item-bytes_list front j ∙ ap (place (7 - j % 8)) (same (j / 8))
      ∙ sym (item-bytes_list bs j);
}
