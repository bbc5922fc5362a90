-- One block filled with bits from the first place on, and what a test for none left says.
use Rattle.std.proofs.Common.{◌≡◌, ◌≢◌, ℕ, ◌+◌, ◌-◌, ◌^◌, ◌<◌, ◌≤◌, Bool, true, false, ◌&&◌, ◌||◌, cond, List, eqb, leb, ltb, sym, ap, ◌∙◌, arith, inl, inr}
use Rattle.std.proofs.lemmas.Bool.{cases_lt, cases_order, lt-ltb, le-ltb, lt-leb, le-leb, and_left, and_right, eq-eqb, eqb-true, ne_eqb, false≢true}
use Rattle.std.proofs.Math.Bool.{and-true, and-false, or-false}
use Rattle.vob_block.specs.Places.{place, HasPlaces}
use Rattle.vob_block.specs.Packing.{item}
use Rattle.vob_block.proofs.PlaceLemmas.{place-zero, place-pow}

-- the first n places are the bits, and the others are false
pub record HasFirst (w x : ℕ) (bits : List Bool) (n : ℕ) : Type 0 where
  pub within : x < 2 ^ w
  pub each : (j : ℕ) → j < w → place j x ≡ (ltb j n && item bits j)

-- the place that holds the first bit of a block
pub place-first : (b : Bool) (j : ℕ) → place j (cond b 1 0) ≡ (b && eqb j 0)
place-first true j = place-pow 0 j
place-first false j = place-zero j

-- a bit moved up to place n
pub mark-places : (b : Bool) (n j : ℕ) → (leb n j && place (j - n) (cond b 1 0)) ≡ (b && eqb j n)
mark-places b n j = elim (cases_lt j n) [
  | inl below ↦ and_left (leb n j) (place (j - n) (cond b 1 0)) (lt-leb n j below)
      ∙ sym (and_right b (eqb j n) (ne_eqb j n (λ e. absurd (omega arith))))
  | inr above ↦ ap (λ t. t && place (j - n) (cond b 1 0)) (le-leb n j above) ∙ place-first b (j - n)
      ∙ ap (λ t. b && t) (shifted j n above)
]
  where
    shifted : (j n : ℕ) → n ≤ j → eqb (j - n) 0 ≡ eqb j n
    shifted j n h = elim (cases_order j n) [
      | inl same ↦ eq-eqb (j - n) 0 (omega arith) ∙ sym (eq-eqb j n same)
      | inr other ↦
          let apart : j ≢ n = elim other [ inl l ↦ omega arith | inr m ↦ omega arith ] in
          ne_eqb (j - n) 0 (λ e. absurd (omega arith)) ∙ sym (ne_eqb j n apart)
    ]

-- one bit more at place n
pub first_more : (w x y n mark moved : ℕ) (bits : List Bool) (b : Bool) → HasFirst w x bits n → b
    ≡ item bits n → mark ≡ cond b 1 0 → y < 2 ^ w
    → HasPlaces w moved (λ j. leb n j && place (j - n) mark)
    → HasPlaces w y (λ j. place j x || place j moved) → HasFirst w y bits (n + 1)
first_more w x y n mark moved bits b h is marked small up both = record {
  within = small;
  each = λ j below.
      both.each j below ∙ ap (λ t. t || place j moved) (h.each j below)
      ∙ ap (λ t. (ltb j n && item bits j) || t)
      (up.each j below ∙ ap (λ z. leb n j && place (j - n) z) marked ∙ mark-places b n j)
      ∙ elim (cases_order j n) [
        | inl same ↦
            ap (λ t. (t && item bits j) || (b && eqb j n)) (le-ltb j n (omega arith))
            ∙ ap (λ t. b && t) (eq-eqb j n same)
            ∙ and-true b ∙ is ∙ ap (item bits) (sym same)
            ∙ sym (ap (λ t. t && item bits j) (lt-ltb j (n + 1) (omega arith)))
        | inr (inl before) ↦
            ap (λ t. (ltb j n && item bits j) || (b && t))
            (ne_eqb j n (λ e. absurd (omega arith)))
            ∙ ap (λ t. (ltb j n && item bits j) || t) (and-false b)
            ∙ or-false (ltb j n && item bits j)
            ∙ ap (λ t. t && item bits j) (lt-ltb j n before ∙ sym (lt-ltb j (n + 1) (omega arith)))
        | inr (inr after) ↦
            ap (λ t. (t && item bits j) || (b && eqb j n)) (le-ltb j n (omega arith))
            ∙ ap (λ t. b && t) (ne_eqb j n (λ e. absurd (omega arith))) ∙ and-false b
            ∙ sym (ap (λ t. t && item bits j) (le-ltb j (n + 1) (omega arith)))
      ];
}

-- what a test for none left says
pub some_left : (n : ℕ) (b : Bool) → b ≡ eqb n 0 → b ≡ false → 0 < n
some_left n b e f = elim (cases_lt 0 n) [
  | inl some ↦ some
  | inr none ↦ absurd (false≢true (sym f ∙ e ∙ eq-eqb n 0 (omega arith)))
]

pub none_left : (n : ℕ) (b : Bool) → b ≡ eqb n 0 → b ≡ true → n ≡ 0
none_left n b e t = eqb-true n 0 (sym e ∙ t)
