-- Rows that got true bits, one time after another.
use Rattle.std.proofs.Common.{◌≡◌, ◌≢◌, ◌↔◌, ℕ, Bool, true, false, ◌||◌, List, [], refl, sym, ap, ◌∙◌, inl, inr}
use Rattle.std.proofs.lemmas.Bool.{cases_Bool, false≢true, or_cases}
use Rattle.std.proofs.lemmas.List.{ext_get_or}
use Rattle.vob_rows.specs.Rows.{row_of}
use Rattle.vob_matrix.specs.Matrix.{entry, HaveShapeOf}
use Rattle.vob_matrix.proofs.ShapeLemmas.{HaveShapeOf-same, HaveShapeOf-trans}
use Rattle.vob_c.specs.Gains.{HaveGained}

-- rows of one shape are the same where their entries are
same_entries : (rows after : List (List Bool)) → HaveShapeOf rows after
    → ((i j : ℕ) → entry after i j ≡ entry rows i j) → after ≡ rows
same_entries rows after shape each = ext_get_or [] after rows shape.count (λ i _.
    ext_get_or false (row_of after i) (row_of rows i) (shape.long i) (λ j _. each i j))

equal_bools : (a b : Bool) → (a ≡ true → b ≡ true) → (b ≡ true → a ≡ true) → b ≡ a
equal_bools true b to from = to refl
equal_bools false true to from = sym (from refl)
equal_bools false false to from = refl

neither : (a b : Bool) → (a || b) ≡ false → (a ≡ false) × (b ≡ false)
neither true b none = absurd (false≢true (sym none))
neither false b none = (refl, none)

pub HaveGained-same : (rows : List (List Bool)) → HaveGained false rows rows
HaveGained-same rows = record {
  shape = HaveShapeOf-same rows;
  kept = λ i j edge. edge;
  same = λ _. refl;
  gained = λ on. absurd (false≢true on);
}

module _ (rows between after : List (List Bool)) (first second : Bool)
    (h : HaveGained first rows between) (k : HaveGained second between after) where
  -- what comes back to where it began has never changed
  back : after ≡ rows → between ≡ rows
  back e = same_entries rows between h.shape (λ i j.
      equal_bools (entry rows i j) (entry between i j) (h.kept i j)
      (λ edge. ap (λ t. entry t i j) (sym e) ∙ k.kept i j edge))

  pub HaveGained-trans : HaveGained (first || second) rows after
  HaveGained-trans = record {
    shape = HaveShapeOf-trans rows between after h.shape k.shape;
    kept = λ i j edge. k.kept i j (h.kept i j edge);
    same = λ none.
        let both = neither first second none in k.same both.1 ∙ h.same both.0;
    gained = λ on e. elim (or_cases first second on) [
      | inl some ↦ h.gained some (back e)
      | inr some ↦ k.gained some (e ∙ sym (back e))
    ];
  }

pub gained_flag : (rows after : List (List Bool)) (changed : Bool) → HaveGained changed rows after
    → (changed ≡ true) ↔ (after ≢ rows)
gained_flag rows after changed h = (
  h.gained,
  (λ other. elim (cases_Bool changed) [
    | inl on ↦ on
    | inr none ↦ absurd (other (h.same none))
  ]),
)
