-- Numbers with a property, and the rows of a table.
use Rattle.std.proofs.Common.{◌≡◌, ◌↔◌, ◌⊎◌, ℕ, ◌+◌, ◌<◌, ◌≤◌, inl, inr, Bool, true, false, List, [], ◌∷◌, ◌++◌, get_or, length, take, None, Option, Some, refl, sym, ap, ◌∙◌, subst, arith}
use Rattle.std.specs.Bool.{beq}
use Rattle.std.specs.List.{AllPairs, Contains}
use Rattle.std.specs.Option.{option_eq}
use Rattle.std.proofs.lemmas.Bool.{cases_lt, false≢true}
use Rattle.std.proofs.lemmas.List.{get_or-take, get_or_append_left, get_or_push, length-take, length_push, take_all, take_more}
use Rattle.std.proofs.lemmas.Option.{get_or_from_slice_get, slice_get-get_or}
use Rattle.std.proofs.lemmas.List.Elements.{Contains-append_left, Contains-get_or, Contains-push, Contains-push_cases}
use Rattle.std.proofs.lemmas.List.Quantifiers.{all_pairs_push}
use Rattle.vob_lr.specs.Lookaheads.{Machine}
use Rattle.vob_lr.specs.Kept.{IsPushed}
use Rattle.vob_lr.specs.Tables.{AreCells, AreRowsOfCells, IsCell}
use Rattle.vob_lr.specs.Those.{AreInOrder, AreThose}
use Rattle.vob_lr.specs.declared.precedence.Precedence.{Precedence}
use Rattle.vob_lr.specs.declared.table.Cell.{Cell}

-- a bit that is compared with one that is set
pub read_set : (bit : Option Bool) → option_eq beq bit (Some true) ≡ true → bit ≡ Some true
read_set None same = absurd (false≢true same)
read_set (Some true) same = refl
read_set (Some false) same = absurd (false≢true same)

module _ {X : Type 0} (Before : X → X → Type 0) where
  pub AreInOrder-nothing : (P : X → Type 0) → ((x : X) → P x → ⊥) → AreInOrder Before P []
  AreInOrder-nothing P none = record {
    each = λ x. ((λ (k, less, is). absurd (omega (arith, less))), (λ there. absurd (none x there)));
    rise = λ i j d less low. absurd (omega (arith, less, low));
  }

  pub AreInOrder-as : (P Q : X → Type 0) → ((x : X) → P x ↔ Q x) → (xs : List X) →
      AreInOrder Before P xs → AreInOrder Before Q xs
  AreInOrder-as P Q same xs h = record {
    each = λ x. (
      (λ there. (same x).0 ((h.each x).0 there)),
      (λ there. (h.each x).1 ((same x).1 there)),
    );
    rise = h.rise;
  }

  -- one more, behind the others
  pub AreInOrder-more : (P Q : X → Type 0) (xs : List X) (y : X) → AreInOrder Before P xs →
      ((x : X) → P x → Before x y) → ((x : X) → (P x ⊎ (y ≡ x)) ↔ Q x) →
      AreInOrder Before Q (xs ++ y ∷ [])
  AreInOrder-more P Q xs y h below both = record {
    each = λ x. (
      (λ there. (both x).0 (elim (Contains-push_cases xs y x there) [
        | inl old ↦ inl ((h.each x).0 old)
        | inr new ↦ inr new
      ])),
      (λ there. elim ((both x).1 there) [
        | inl old ↦ Contains-append_left xs (y ∷ []) x ((h.each x).1 old)
        | inr new ↦ subst (λ z. Contains (xs ++ y ∷ []) z) new (Contains-push xs y)
      ]),
    );
    rise = all_pairs_push Before xs y h.rise
        (λ k d less. below (get_or xs k d)
        ((h.each (get_or xs k d)).0 (Contains-get_or xs k d less)));
  }

-- ---- among the first numbers of a list, one after another

abbrev pub Among : (ℕ → Type 0) → List ℕ → ℕ → ℕ → Type 0
Among P list k n = Contains (take k list) n × P n

module _ (P : ℕ → Type 0) (list : List ℕ) where
  pub among_none : AreThose (Among P list 0) []
  among_none =
      AreInOrder-nothing (λ i j. i < j) (Among P list 0) (λ n there. let (k, less, is) = there.0 in absurd (omega (arith, less)))

  module _ (rise : AllPairs (λ n m. n < m) list) (k : ℕ) (less : k < length list) where
    abbrev x : ℕ
    x = get_or list k 0

    more : take (k + 1) list ≡ take k list ++ x ∷ []
    more = take_more list k 0 less

    both : (n : ℕ) → (Contains (take k list) n ⊎ (x ≡ n)) ↔ Contains (take (k + 1) list) n
    both n = rw more (
      (λ there. elim there [
        | inl old ↦ Contains-append_left (take k list) (x ∷ []) n old
        | inr new ↦
            subst (λ y. Contains (take k list ++ x ∷ []) y) new (Contains-push (take k list) x)
      ]),
      (λ there. Contains-push_cases (take k list) x n there),
    )

    before : (n : ℕ) → Contains (take k list) n → n < x
    before n (i, low, at) =
        let here : i < k = omega (arith, low, length-take k list) in
        let own = sym (get_or-take k list i n here) ∙ at in
        let same = get_or_from_slice_get list k x n (slice_get-get_or list k 0 less) in
        omega (arith, own, same, rise i k n here less)

    pub among_with : (ns : List ℕ) → AreThose (Among P list k) ns → P x →
        AreThose (Among P list (k + 1)) (ns ++ x ∷ [])
    among_with ns h own =
        AreInOrder-more (λ i j. i < j) (Among P list k) (Among P list (k + 1)) ns x h (λ n there. before n there.0)
        (λ n. (
          (λ there. elim there [
            | inl old ↦ ((both n).0 (inl old.0), old.1)
            | inr same ↦ ((both n).0 (inr same), subst P same own)
          ]),
          (λ there. elim ((both n).1 there.0) [
            | inl old ↦ inl (old, there.1)
            | inr same ↦ inr same
          ]),
        ))

    pub among_without : (ns : List ℕ) → AreThose (Among P list k) ns → (P x → ⊥) →
        AreThose (Among P list (k + 1)) ns
    among_without ns h not =
        AreInOrder-as (λ i j. i < j) (Among P list k) (Among P list (k + 1))
        (λ n. (
          (λ there. ((both n).0 (inl there.0), there.1)),
          (λ there. elim ((both n).1 there.0) [
            | inl old ↦ (old, there.1)
            | inr same ↦ absurd (not (subst P (sym same) there.1))
          ]),
        )) ns h

  pub among_all : (k : ℕ) → length list ≤ k → ((n : ℕ) → P n → Contains list n) →
      (ns : List ℕ) → AreThose (Among P list k) ns → AreThose P ns
  among_all k past inside ns h =
      AreInOrder-as (λ i j. i < j) (Among P list k) P
      (λ n. (
        (λ there. there.1),
        (λ there. (rw (take_all k list past) (inside n there), there)),
      )) ns h

-- ---- the cells of a row, and the rows

module _ (m : Machine) (terminals rules : List (Option Precedence)) where
  pub AreCells-nothing : (q : ℕ) → AreCells m terminals rules q 0 []
  AreCells-nothing q = record { long = refl; each = λ t d less. absurd (omega (arith, less)) }

  IsCell-same : (q t : ℕ) (cell own : Cell) → own.shift ≡ cell.shift →
      own.reduces.items ≡ cell.reduces.items → IsCell m terminals rules q t cell →
      IsCell m terminals rules q t own
  IsCell-same q t cell own shift reduces h = record {
    shift = h.shift;
    reduces = h.reduces;
    all = h.all;
    left = ap (λ (s : Option ℕ). (s, own.reduces.items)) shift
        ∙ ap (λ (rs : List ℕ). (cell.shift, rs)) reduces ∙ h.left;
  }

  pub AreCells-more : (q n : ℕ) (row : List Cell) (cell : Cell) (after : List Cell) →
      AreCells m terminals rules q n row → IsCell m terminals rules q n cell →
      IsPushed row cell after → AreCells m terminals rules q (n + 1) after
  AreCells-more q n row cell after h given (own, (shift, reduces), is) =
      let same = IsCell-same q n cell own shift reduces given in
      rw is record {
        long = length_push row own ∙ ap (λ k. k + 1) h.long;
        each = λ t d less. elim (cases_lt t (length row)) [
          | inl low ↦
              subst (λ c. IsCell m terminals rules q t c)
              (sym (get_or_append_left row (own ∷ []) d t low)) (h.each t d low)
          | inr past ↦
              let here : t ≡ length row = omega (arith, past, less, length_push row own) in
              subst (λ c. IsCell m terminals rules q t c) (sym (get_or_push row own d t (sym here)))
              (subst (λ k. IsCell m terminals rules q k own) (sym h.long ∙ sym here) same)
        ];
      }

  pub AreRowsOfCells-more : (n : ℕ) (rows : List (List Cell)) (row : List Cell) →
      AreRowsOfCells m terminals rules n rows →
      AreCells m terminals rules n m.grammar.terminals row →
      AreRowsOfCells m terminals rules (n + 1) (rows ++ row ∷ [])
  AreRowsOfCells-more n rows row h own = record {
    count = length_push rows row ∙ ap (λ k. k + 1) h.count;
    each = λ q less. elim (cases_lt q (length rows)) [
      | inl low ↦
          subst (λ cs. AreCells m terminals rules q m.grammar.terminals cs)
          (sym (get_or_append_left rows (row ∷ []) [] q low)) (h.each q low)
      | inr past ↦
          let here : q ≡ length rows = omega (arith, past, less, length_push rows row) in
          subst (λ cs. AreCells m terminals rules q m.grammar.terminals cs)
          (sym (get_or_push rows row [] q (sym here)))
          (subst (λ k. AreCells m terminals rules k m.grammar.terminals row)
          (sym h.count ∙ sym here) own)
    ];
  }
