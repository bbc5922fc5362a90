-- Bits of rows packed a word at a time.
use Rattle.std.proofs.Common.{◌≡◌, ℕ, ◌+◌, ◌-◌, ◌/◌, ◌%◌, ◌<◌, ◌≤◌, nat_le, Bool, true, false, ◌&&◌, ◌||◌, cond}
use Rattle.std.proofs.Common.{List, [], ◌∷◌, length, get_or, refl, sym, ap, ◌∙◌, arith, inl, inr, eqb}
use Rattle.std.proofs.lemmas.Bool.{cases_lt, lt-leb, le-leb, and_left, and_right, ne_eqb}
use Rattle.std.proofs.Math.Bool.{or-false}
use Rattle.std.proofs.lemmas.List.{ext_get_or}
use Rattle.vob_block.specs.Places.{place, HasPlaces}
use Rattle.vob_block.specs.Packing.{item, unpacking}
use Rattle.vob_block.proofs.PlaceLemmas.{place-zero, place-pow}
use Rattle.vob_block.proofs.PackingLemmas.{get_or-unpacking, bit_at-is_place}
use Rattle.vob.specs.Copy.{IsCopied}

-- the first n places of a word are those of f, and the others are false
pub record HasRows (f : ℕ → Bool) (n word : ℕ) : Type 0 where
  pub below : (j : ℕ) → j < n → place j word ≡ f j
  pub above : (j : ℕ) → n ≤ j → j < 64 → place j word ≡ false

pub no_rows : (f : ℕ → Bool) → HasRows f 0 0
no_rows f = record {
  below = λ j less. absurd (omega
      (arith, less));
  above = λ j past less. place-zero j;
}

place_mark : (b : Bool) (j : ℕ) → place j (cond b 1 0) ≡ (b && eqb j 0)
place_mark true j = place-pow 0 j
place_mark false j = place-zero j

module _ (f : ℕ → Bool) (n word next moved mark : ℕ) (b : Bool) (h : HasRows f n word)
    (few : n < 64)
    (is : b ≡ f n) (one : mark ≡ cond b 1 0)
    (up : HasPlaces 64 moved (λ j. nat_le n j && place (j - n) mark))
    (both : HasPlaces 64 next (λ j. place j word || place j moved)) where
  moved_up : (j : ℕ) → n ≤ j → j < 64 → place j moved ≡ (b && eqb (j - n) 0)
  moved_up j from less = up.each j less ∙ ap (λ t. t && place (j - n) mark) (le-leb n j from)
      ∙ ap (place (j - n)) one ∙ place_mark b (j - n)

  pub HasRows-more : HasRows f (n + 1) next
  HasRows-more = record {
    below = λ j less. both.each j (omega arith) ∙ elim (cases_lt j n) [
      | inl before ↦
          ap (λ t. place j word || t) (up.each j (omega arith)
          ∙ and_left (nat_le n j) (place (j - n) mark) (lt-leb n j before))
          ∙ or-false (place j word) ∙ h.below j before
      | inr here ↦
          let at : j ≡ n = omega arith in
          let none : j - n ≡ 0 = omega arith in
          ap (λ t. t || place j moved) (h.above j here (omega arith))
          ∙ moved_up j here (omega arith) ∙ ap (λ k. b && eqb k 0) none ∙ and_true b ∙ is
          ∙ ap f (sym at)
    ];
    above = λ j past less. both.each j less
        ∙ ap (λ t. t || place j moved) (h.above j (omega arith) less)
        ∙ moved_up j (omega arith) less
        ∙ and_right b (eqb (j - n) 0) (ne_eqb (j - n) 0 (λ e. absurd (omega (arith, e, past))));
  }
    where
      and_true : (c : Bool) → (c && true) ≡ c
      and_true true = refl
      and_true false = refl

-- a word that is stored gives its places to the rows from `start` on
pub packed_more : (rows bits after : List Bool) (start end count word : ℕ) → count ≤ 64
    → end ≡ start + count
    → IsCopied start 0 (end - start) bits (unpacking 64 (word ∷ []) 64) after
    → ((j : ℕ) → j < count → place j word ≡ item rows (start + j))
    → ((i : ℕ) → i < start → item bits i ≡ item rows i) → (i : ℕ) → i < end
    → item after i ≡ item rows i
packed_more rows bits after start end count word few ends copied places below i less =
    elim (cases_lt i start) [
      | inl before ↦ copied.before i before ∙ below i before
      | inr past ↦
          let j = i - start in
          let at : start + j ≡ i = omega arith in
          let inside : j < 64 = omega arith in
          let zeroth : 0 + j ≡ j = omega arith in
          let low : j % 64 ≡ j = omega arith in
          let block : j / 64 ≡ 0 = omega arith in
          ap (item after) (sym at) ∙ copied.copied j (omega arith)
          ∙ ap (item (unpacking 64 (word ∷ []) 64)) zeroth
          ∙ get_or-unpacking 64 (word ∷ []) 64 j false inside
          ∙ bit_at-is_place (word ∷ []) 64 j
          ∙ ap (λ k. place k (get_or (word ∷ []) (j / 64) 0)) low
          ∙ ap (λ k. place j (get_or (word ∷ []) k 0)) block
          ∙ places j (omega arith) ∙ ap (item rows) at
    ]

pub packed_all : (rows bits : List Bool) → length bits ≡ length rows
    → ((i : ℕ) → i < length rows → item bits i ≡ item rows i) → bits ≡ rows
packed_all rows bits same each = ext_get_or false bits rows same
    (λ i less. each i (omega (arith, less, same)))
