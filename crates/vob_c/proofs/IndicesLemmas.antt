-- An array into which the items of a walk are written, one after another.
use Rattle.std.specs.Prelude.{Some, None, slice_get}
use Rattle.std.proofs.Common.{◌≡◌, ℕ, ◌+◌, ◌<◌, ◌≤◌, List, [], ◌∷◌, length, drop, set, get_or, refl, sym, ap, ◌∙◌, arith, inl, inr}
use Rattle.std.proofs.lemmas.Bool.{cases_eq}
use Rattle.std.proofs.lemmas.List.{drop-drop, get_or-drop, get_or-set_other, get_or-set_same, length-drop, length-set}
use Rattle.std.proofs.lemmas.Option.{get_or_from_slice_get, slice_get_within}
use Rattle.vob_walk.specs.Walk.{end_item, without_end}
use Rattle.vob_walk.specs.declared.walk.End.TheVariants.{Front}
use Rattle.vob_c.specs.Indices.{AreFirst}

-- k items of a list were written, and the others are left
pub record IsWriting (list before : List ℕ) (k : ℕ) (left out : List ℕ) : Type 0 where
  pub few : k ≤ length list
  pub left_is : left ≡ drop k list
  pub long : length out ≡ length before
  pub first : (i : ℕ) → i < k → get_or out i 0 ≡ get_or list i 0
  pub rest : (i : ℕ) → k ≤ i → get_or out i 0 ≡ get_or before i 0

pub IsWriting-none : (list before : List ℕ) → IsWriting list before 0 list before
IsWriting-none list before = record {
  few = omega arith;
  left_is = refl;
  long = refl;
  first = λ i less. absurd (omega (arith, less));
  rest = λ i past. refl;
}

none_left : (xs : List ℕ) → slice_get xs 0 ≡ None → length xs ≡ 0
none_left [] e = refl
none_left (x ∷ xs) e = cc

module _ {list before left out : List ℕ} {k : ℕ} (h : IsWriting list before k left out) where
  pub IsWriting-more : (index : ℕ) (after : List ℕ) → end_item Front left ≡ Some index
      → after ≡ without_end Front left → k < length out
      → IsWriting list before (k + 1) after (set out k index)
  unfolding end_item without_end
  IsWriting-more index after given kept inside =
      let there = slice_get_within left 0 index given in
      let at : k ≡ k + 0 = omega arith in
      let is : get_or list k 0 ≡ index = ap (λ j. get_or list j 0) at
      ∙ sym (get_or-drop k list 0 0) ∙ ap (λ xs. get_or xs 0 0) (sym h.left_is)
      ∙ get_or_from_slice_get left 0 index 0 given in
      record {
        few = omega (arith, there, ap length h.left_is, length-drop k list);
        left_is = kept ∙ ap (drop 1) h.left_is ∙ drop-drop 1 k list ∙ ap (λ n. drop n list) (omega arith);
        long = length-set out k index ∙ h.long;
        first = λ i less. elim (cases_eq i k) [
          | inl same ↦ ap (λ j. get_or (set out k index) j 0) same
              ∙ get_or-set_same out k index 0 inside ∙ sym is ∙ ap (λ j. get_or list j 0) (sym same)
          | inr other ↦ get_or-set_other out k i index 0 other
              ∙ h.first i (omega (arith, less, other))
        ];
        rest = λ i past. get_or-set_other out k i index 0 (omega (arith, past))
            ∙ h.rest i (omega (arith, past));
      }

  pub AreFirst-all : end_item Front left ≡ None → k ≤ length out → AreFirst list before out k
  unfolding end_item
  AreFirst-all given inside =
      let none = none_left left given in record {
        count_is = omega (
          arith,
          none,
          ap length h.left_is,
          length-drop k list,
          h.few,
          inside,
          h.long,
        );
        long = h.long;
        first = h.first;
        rest = h.rest;
      }

  pub AreFirst-full : k ≡ length out → AreFirst list before out (length out)
  AreFirst-full full = record {
    count_is = omega (arith, full, h.few, h.long);
    long = h.long;
    first = λ i less. h.first i (omega (arith, less, full));
    rest = λ i past. h.rest i (omega (arith, past, full));
  }

  -- the same by the first item that is left, if there is one
  pub IsWriting-next : (index : ℕ) (after : List ℕ) → left ≡ index ∷ after → k < length out
      → IsWriting list before (k + 1) after (set out k index)
  unfolding end_item without_end
  IsWriting-next index after is inside = IsWriting-more index after (rw is refl) (rw is refl) inside

  pub AreFirst-none : left ≡ [] → k ≤ length out → AreFirst list before out k
  unfolding end_item
  AreFirst-none none inside = AreFirst-all (rw none refl) inside
