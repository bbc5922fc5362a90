-- One more of each of two lists that match.
use Rattle.std.proofs.Common.{◌≡◌, ◌≢◌, ◌<◌, ◌≤◌, ◌+◌, inl, inr, ap, arith, drop, sym, ◌∙◌, refl, subst, zero, suc, Bool, false, ◌==◌, Some, Option, ℕ, List, [], ◌∷◌, ◌++◌, get_or, length, take}
use Rattle.std.proofs.lemmas.List.{drop_more, take-append-drop, take_more}
use Rattle.std.proofs.lemmas.Bool.{cases_lt}
use Rattle.std.proofs.lemmas.Option.{none-some}
use Rattle.std.proofs.lemmas.Slice.Zip.{AllZip-long}
use Rattle.std.specs.List.{AllZip}
use Rattle.std.specs.declared.cmp.Ordering.{Ordering}
use Rattle.csv.specs.Records.{field_at}
use Rattle.files_condition.specs.Relations.{holds}
use Rattle.files_condition.specs.declared.condition.Relation.{Relation}
use Rattle.files_filter.specs.Answers.{Answers, AnswersBoth, AreAnswers, IsOrder}
use Rattle.files_filter.specs.Reading.{Cells}
use Rattle.files_filter.specs.declared.comparing.Test.{Test}

pub matched : {X Y : Type 0} (R : X → Y → Type 0) (xs : List X) (ys : List Y) (x : X) (y : Y) → AllZip R xs ys → R x y →
    AllZip R (xs ++ x ∷ []) (ys ++ y ∷ [])
matched R [] [] x y before last = (last, tt)
matched R [] (first ∷ ys) x y before last = absurd before
matched R (first ∷ xs) [] x y before last = absurd before
matched R (first ∷ xs) (one ∷ ys) x y before last = (before.0, matched R xs ys x y before.1 last)

-- those up to the next one
pub matched_up : {X Y : Type 0} (R : X → Y → Type 0) (xs : List X) (place : ℕ) (other item : X) (ys : List Y) (y : Y) →
    place < length xs → item ≡ get_or xs place other → AllZip R (take place xs) ys → R item y →
    AllZip R (take (place + 1) xs) (ys ++ y ∷ [])
matched_up R xs place other item ys y less is before last =
    rw (take_more xs place other less)
    (matched R (take place xs) ys (get_or xs place other) y before (subst (λ x. R x y) is last))

-- two cells that aren't empty are compared
pub both_answer : (relation : Relation) (first second : List ℕ) → second ≢ [] → (order : Ordering) →
    IsOrder first second order → (answer : Bool) → answer ≡ holds relation order → AnswersBoth relation first second (Some answer)
both_answer relation first [] some order is answer holds-is = absurd (some refl)
both_answer relation first (byte ∷ bytes) some order is answer holds-is = (order, is, ap Some holds-is)

-- the places below the next one
pub first_place : (header : Cells) (name : List ℕ) (place : ℕ) →
    ((before : ℕ) → before < place → field_at header before ≢ Some name) → field_at header place ≢ Some name →
    (before : ℕ) → before < place + 1 → field_at header before ≢ Some name
first_place header name place none other before less = elim (cases_lt before place) [
  | inl early ↦ none before early
  | inr late ↦ subst (λ k. field_at header k ≢ Some name) (omega arith) other
]

-- no column is behind the last
pub no_place : (header : Cells) (name : List ℕ) (place : ℕ) → length header ≤ place → field_at header place ≢ Some name
unfolding field_at
no_place [] name place within there = absurd (none-some name there)
no_place (first ∷ header) name zero within there = absurd (omega arith)
no_place (first ∷ header) name (suc place) within there = no_place header name place (omega arith) there

pub no_column : (header : Cells) (name : List ℕ) (places : ℕ) → length header ≤ places →
    ((before : ℕ) → before < places → field_at header before ≢ Some name) → (place : ℕ) → field_at header place ≢ Some name
no_column header name places within none place = elim (cases_lt place places) [
  | inl early ↦ none place early
  | inr late ↦ no_place header name place (omega arith)
]

-- there are as many answers as tests
pub answers_count : (tests : List Test) (cells : Cells) (answers : List (Option Bool)) →
    AreAnswers tests cells answers → length answers ≡ length tests
answers_count tests cells answers are = AllZip-long (λ test answer. Answers test cells answer) tests answers are

-- a list with some length is no empty one
pub not_empty : (xs : List ℕ) → false ≡ (length xs == 0) → xs ≢ []
not_empty [] none same = absurd (cc none)
not_empty (x ∷ xs) none same = absurd (cc same)

-- a list is what is before an item, the item, and what is behind it
pub cut_at : {X : Type 0} (xs : List X) (place : ℕ) (other : X) → place < length xs →
    xs ≡ take place xs ++ get_or xs place other ∷ drop (place + 1) xs
cut_at xs place other less = sym (take-append-drop place xs) ∙ ap (λ rest. take place xs ++ rest) (drop_more xs place other less)
