-- Rows of a matrix that become columns of another, a tile at a time.
use Rattle.std.proofs.Common.{◌≡◌, ◌≢◌, ◌⊎◌, ℕ, ◌+◌, ◌-◌, ◌/◌, ◌%◌, ◌<◌, ◌≤◌, Bool, false}
use Rattle.std.proofs.Common.{List, [], ◌∷◌, length, get_or, set, refl, sym, ap, ◌∙◌, subst, arith, inl, inr}
use Rattle.std.proofs.lemmas.Bool.{cases_eq, cases_lt}
use Rattle.std.proofs.lemmas.List.{get_or-set_same, get_or-set_other}
use Rattle.vob_block.specs.Packing.{item, unpacking}
use Rattle.vob_block.specs.Places.{place}
use Rattle.vob_block.proofs.PackingLemmas.{get_or-unpacking, bit_at-is_place}
use Rattle.vob.specs.Copy.{IsCopied}
use Rattle.vob_rows.specs.Rows.{row_of}
use Rattle.vob_matrix.specs.Matrix.{entry}
use Rattle.vob_matrix.specs.TileRows.{IsLoaded, IsStored, AreTaken}
use Rattle.vob_matrix.specs.Tiles.{word, AreTurned}
use Rattle.vob_matrix.proofs.ShapeLemmas.{HaveShapeOf-same, HaveShapeOf-trans, HaveShapeOf-set, row_of-there, row_of-other}

-- ---- words that are read

pub IsLoaded-start : (rows : List (List Bool)) (first start end : ℕ) (words : List ℕ) →
    IsLoaded rows first first start end words
IsLoaded-start rows first start end words = record {
  each = λ k j less within. absurd (omega (arith, less));
}

pub IsLoaded-more : (rows : List (List Bool)) (first k start end x : ℕ) (words : List ℕ)
    (row : List Bool) → k < length words → row_of rows (first + k) ≡ row →
    ((j : ℕ) → j < end - start → place j x ≡ item row (start + j)) →
    IsLoaded rows first (first + k) start end words →
    IsLoaded rows first (first + (k + 1)) start end (set words k x)
IsLoaded-more rows first k start end x words row inside is places h = record {
  each = λ i j less within. elim (cases_eq i k) [
    | inl here ↦
        ap (λ n. place j (word (set words k x) n)) here
        ∙ ap (place j) (get_or-set_same words k x 0 inside)
        ∙ places j (omega (arith, within)) ∙ ap (λ r. item r (start + j)) (sym is)
        ∙ ap (λ n. entry rows (first + n) (start + j)) (sym here)
    | inr other ↦
        ap (place j) (get_or-set_other words k i x 0 other)
        ∙ h.each i j (omega (arith, less, other)) within
  ];
}

-- ---- words that are written

pub IsStored-start : (rows : List (List Bool)) (words : List ℕ) (first last start : ℕ) →
    IsStored rows words first last start start rows
IsStored-start rows words first last start = record {
  shape = HaveShapeOf-same rows;
  each = λ k j less within. absurd (omega (arith, less));
  others = λ i j out. refl;
}

-- the places of a word that is stored
stored-place : (x j : ℕ) → j < 64 → item (unpacking 64 (x ∷ []) 64) (0 + j) ≡ place j x
stored-place x j less =
    let zeroth : 0 + j ≡ j = omega arith in
    let low : j % 64 ≡ j = omega arith in
    let block : j / 64 ≡ 0 = omega arith in
    ap (item (unpacking 64 (x ∷ []) 64)) zeroth ∙ get_or-unpacking 64 (x ∷ []) 64 j false less
    ∙ bit_at-is_place (x ∷ []) 64 j
    ∙ ap (λ k. place k (get_or (x ∷ []) (j / 64) 0)) low
    ∙ ap (λ k. place j (get_or (x ∷ []) k 0)) block

module _ (rows : List (List Bool)) (words : List ℕ) (first last start k i : ℕ)
    (before : List (List Bool)) (row new : List Bool) (inside : i < length before)
    (at : i ≡ start + k) (few : last ≤ first + 64) (is : row_of before i ≡ row)
    (copied : IsCopied first 0 (last - first) row (unpacking 64 (word words k ∷ []) 64) new)
    (h : IsStored rows words first last start (start + k) before) where
  stays : (l j : ℕ) → l ≢ i → entry (set before i new) l j ≡ entry before l j
  stays l j other = ap (λ r. item r j) (row_of-other before i new inside l other)

  IsStored-set : IsStored rows words first last start (start + (k + 1)) (set before i new)
  IsStored-set = record {
    shape = HaveShapeOf-trans rows before (set before i new) h.shape
        (HaveShapeOf-set before i new inside (copied.len ∙ ap length (sym is)));
    each = λ m j less within. elim (cases_eq m k) [
      | inl here ↦
          let there : start + m ≡ i = omega (arith, here, at) in
          ap (λ n. entry (set before i new) n (first + j)) there
          ∙ ap (λ r. item r (first + j)) (row_of-there before i new inside)
          ∙ copied.copied j (omega (arith, within))
          ∙ stored-place (word words k) j (omega (arith, within, few))
          ∙ ap (λ n. place j (word words n)) (sym here)
      | inr other ↦
          stays (start + m) (first + j) (λ e. omega (arith, e, at, other))
          ∙ h.each m j (omega (arith, less, other)) within
    ];
    others = λ l j out. elim (cases_eq l i) [
      | inl here ↦
          let same = h.others l j (λ w. omega (arith, w.1, here, at)) in
          let old = ap (λ n. entry before n j) (sym here) ∙ same in
          ap (λ n. entry (set before i new) n j) here
          ∙ ap (λ r. item r j) (row_of-there before i new inside)
          ∙ elim (cases_lt j first) [
            | inl under ↦ copied.before j under ∙ ap (λ r. item r j) (sym is) ∙ old
            | inr from ↦ elim (cases_lt j last) [
              | inl below ↦ absurd (out (omega (arith, here, at), omega (arith, here, at), from, below))
              | inr past ↦
                  copied.behind j (omega (arith, past, from)) ∙ ap (λ r. item r j) (sym is) ∙ old
            ]
          ]
      | inr other ↦
          stays l j other
          ∙ h.others l j (λ w. out (w.0, omega (arith, w.1), w.2, w.3))
    ];
  }

pub IsStored-more : (rows : List (List Bool)) (words : List ℕ) (first last start k i : ℕ)
    (before : List (List Bool)) (new : List Bool) (after : List (List Bool)) → i < length before →
    i ≡ start + k → last ≤ first + 64 → after ≡ set before i new →
    IsCopied first 0 (last - first) (row_of before i) (unpacking 64 (word words k ∷ []) 64)
    (row_of after i) → IsStored rows words first last start (start + k) before →
    IsStored rows words first last start (start + (k + 1)) after
IsStored-more rows words first last start k i before new after inside at few is copied h =
    let there = ap (λ rs. row_of rs i) is ∙ row_of-there before i new inside in
    subst (IsStored rows words first last start (start + (k + 1))) (sym is)
    (IsStored-set rows words first last start k i before (row_of before i) new inside at few refl
    (rw there at copied) h)

-- ---- a tile

-- what was read is written transposed
pub AreTaken-tile : (rows from after : List (List Bool)) (first last start end : ℕ)
    (read turned : List ℕ) → last ≤ first + 64 → end ≤ start + 64 →
    IsLoaded from first last start end read → AreTurned read turned →
    IsStored rows turned first last start end after → AreTaken rows from first last start end after
AreTaken-tile rows from after first last start end read turned few width loaded made stored =
    record {
      shape = stored.shape;
      each = λ i j w.
          let k = i - first in
          let l = j - start in
          let row : first + k ≡ i = omega (arith, w.0) in
          let column : start + l ≡ j = omega (arith, w.2) in
          ap (λ n. entry after n i) (sym column) ∙ ap (entry after (start + l)) (sym row)
          ∙ stored.each l k (omega (arith, w.3, column)) (omega (arith, w.1, row))
          ∙ made.each l k (omega (arith, w.3, width)) (omega (arith, w.1, few))
          ∙ loaded.each k l (omega (arith, w.1, row)) (omega (arith, w.3, column))
          ∙ ap (λ n. entry from n (start + l)) row ∙ ap (entry from i) column;
      others = λ i j out. stored.others j i (λ w. out (w.2, w.3, w.0, w.1));
    }

pub AreTaken-start : (rows from : List (List Bool)) (first last start end : ℕ) →
    (last ≤ first) ⊎ (end ≤ start) → AreTaken rows from first last start end rows
AreTaken-start rows from first last start end none = record {
  shape = HaveShapeOf-same rows;
  each = λ i j w. absurd (elim none [
    | inl rows ↦ omega (arith, w.0, w.1, rows)
    | inr columns ↦ omega (arith, w.2, w.3, columns)
  ]);
  others = λ i j out. refl;
}
