-- Rows that get those of others, one after another.
use Rattle.std.proofs.Common.{◌≡◌, ◌≢◌, ◌↔◌, ℕ, ◌+◌, ◌<◌, ◌≤◌, Bool, true, false, ◌||◌, List, [], length, set}
use Rattle.std.proofs.Common.{refl, sym, ap, ◌∙◌, arith, inl, inr}
use Rattle.std.proofs.lemmas.Bool.{cases_Bool, cases_eq, cases_lt, false≢true}
use Rattle.std.proofs.lemmas.List.{get_or_past, set-get_or}
use Rattle.vob_block.specs.Packing.{item}
use Rattle.vob.specs.Bits.{AreCombined, GainsBits}
use Rattle.vob_rows.specs.Rows.{row_of}
use Rattle.vob_matrix.specs.Matrix.{entry, HaveShapeOf, AreJoined}
use Rattle.vob_matrix.proofs.ShapeLemmas.{HaveShapeOf-same, HaveShapeOf-trans, row_of-there, row_of-other}
use Rattle.vob_matrix.proofs.UnionLemmas.{IsUnionSet-or}

-- the rows before row n got those of others, and no other changed; a flag is true where one did
pub record AreJoinedBefore (rows others : List (List Bool)) (n : ℕ) (changed : Bool)
    (after : List (List Bool)) : Type 0 where
  pub shape : HaveShapeOf rows after
  pub done : (i j : ℕ) → i < n → entry after i j ≡ (entry rows i j || entry others i j)
  pub left : (i : ℕ) → n ≤ i → row_of after i ≡ row_of rows i
  pub same : changed ≡ false → after ≡ rows
  pub gained : changed ≡ true → (i : ℕ) × (i < n) × (row_of after i ≢ row_of rows i)

module _ (rows others : List (List Bool)) where
  pub AreJoinedBefore-start : AreJoinedBefore rows others 0 false rows
  AreJoinedBefore-start = record {
    shape = HaveShapeOf-same rows;
    done = λ i j less. absurd (omega (arith, less));
    left = λ i past. refl;
    same = λ off. refl;
    gained = λ on. absurd (false≢true on);
  }

  -- row n is joined, and the flag says so if it was not set
  pub AreJoinedBefore-more : (n : ℕ) (now : List (List Bool)) (new : List Bool)
      (after : List (List Bool)) (before gained flag : Bool) → n < length now →
      AreJoinedBefore rows others n before now → after ≡ set now n new →
      AreCombined ◌||◌ (row_of now n) (row_of others n) (row_of after n) →
      GainsBits gained (row_of now n) (row_of after n) →
      ((gained ≡ true) ↔ (after ≢ now)) →
      ((gained ≡ true) → flag ≡ true) → ((gained ≡ false) → flag ≡ before) →
      AreJoinedBefore rows others (n + 1) flag after
  AreJoinedBefore-more n now new after before gained flag inside h is combined gains tells sets
      keeps =
      let made = IsUnionSet-or now n (row_of others n) new after inside is combined in
      let there = ap (λ rs. row_of rs n) is ∙ row_of-there now n new inside in
      let stays = λ (e : row_of after n ≡ row_of now n). is
      ∙ ap (set now n) (sym there ∙ e) ∙ set-get_or now n [] in
      let off = λ (k : ℕ) (apart : k ≢ n). ap (λ rs. row_of rs k) is
      ∙ row_of-other now n new inside k apart in
      record {
        shape = HaveShapeOf-trans rows _ _ h.shape made.shape;
        done = λ i j less. elim (cases_eq i n) [
          | inl here ↦ ap (λ k. entry after k j) here ∙ made.there j
              ∙ ap (λ r. item r j || entry others n j) (h.left n (omega arith))
              ∙ ap (λ k. entry rows k j || entry others k j) (sym here)
          | inr apart ↦ ap (λ r. item r j) (off i apart) ∙ h.done i j (omega (arith, less, apart))
        ];
        left = λ i past. off i (λ here. omega (arith, here, past)) ∙ h.left i (omega (arith, past));
        same = λ unset. elim (cases_Bool gained) [
          | inl more ↦ absurd (false≢true (sym unset ∙ sets more))
          | inr none ↦ stays (gains.same none) ∙ h.same (sym (keeps none) ∙ unset)
        ];
        gained = λ on. elim (cases_Bool gained) [
          | inl more ↦ (
            n,
            omega arith,
            λ e. tells.0 more (stays (e ∙ sym (h.left n (omega arith)))),
          )
          | inr none ↦
              let was = h.gained (sym (keeps none) ∙ on) in (
                was.0,
                omega (arith, was.1),
                λ e. was.2 (sym (off was.0 (λ here. omega (arith, here, was.1))) ∙ e),
              )
        ];
      }

  -- all rows are joined
  pub AreJoined-whole : (n : ℕ) (changed : Bool) (after : List (List Bool)) →
      length rows ≤ n → length others ≤ n → AreJoinedBefore rows others n changed after →
      AreJoined rows others after
  AreJoined-whole n changed after whole count h = record {
    shape = h.shape;
    each = λ i j. elim (cases_lt i n) [
      | inl less ↦ h.done i j less
      | inr past ↦ ap (λ r. item r j)
          (get_or_past after i [] (omega (arith, past, whole, h.shape.count)))
          ∙ sym (ap (λ r. item r j || entry others i j) (get_or_past rows i []
          (omega (arith, past, whole)))
          ∙ ap (λ r. item r j) (get_or_past others i [] (omega (arith, past, count))))
    ];
  }

  pub changed-joined : (n : ℕ) (changed : Bool) (after : List (List Bool)) →
      AreJoinedBefore rows others n changed after → (changed ≡ true) ↔ (after ≢ rows)
  changed-joined n changed after h = (
    (λ on. λ e.
        let was = h.gained on in was.2 (ap (λ rs. row_of rs was.0) e)),
    (λ differs. elim (cases_Bool changed) [
      | inl on ↦ on
      | inr unset ↦ absurd (differs (h.same unset))
    ]),
  )
