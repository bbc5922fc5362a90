-- The names of a header, one after another.
use Rattle.std.specs.Prelude.{Contains, IfNone, IfSome, slice_get}
use Rattle.std.specs.Option.{is_some}
use Rattle.std.proofs.Common.{◌≡◌, ◌≢◌, ◌∙◌, ◌+◌, ◌<◌, ◌≤◌, ℕ, zero, suc, false, true, List, [], ◌∷◌, ◌++◌, Option, None, Some, ap, arith, get_or, inl, inr, length, refl, subst, sym, take}
use Rattle.std.proofs.lemmas.Bool.{cases_lt, false≢true}
use Rattle.std.proofs.lemmas.List.{take_more}
use Rattle.std.proofs.lemmas.List.Elements.{Contains-append_left, Contains-get_or, Contains-push, Contains-push_cases}
use Rattle.std.proofs.lemmas.Option.{get_or_from_slice_get, slice_get_within}
use Rattle.csv.specs.Records.{field_at}
use Rattle.files_text.specs.Names.{IsNumbered}
use Rattle.files_text.proofs.ListLemmas.{nothing}
use Rattle.files_text.proofs.NamesLemmas.{grown}
use Rattle.files_filter.specs.Answers.{cell_at}
use Rattle.files_filter.specs.Columns.{AreNames, HoldNames, IsRepeated}
use Rattle.files_filter.specs.Reading.{Cells}

pub cell_is : (header : Cells) (place : ℕ) → get_or header place [] ≡ cell_at header place
unfolding field_at
cell_is [] place = refl
cell_is (cell ∷ header) zero = refl
cell_is (cell ∷ header) (suc place) = cell_is header place

pub no_cell : (header : Cells) (place : ℕ) → length header ≤ place → cell_at header place ≡ []
unfolding field_at
no_cell [] place within = refl
no_cell (cell ∷ header) zero within = absurd (omega (arith, within))
no_cell (cell ∷ header) (suc place) within = no_cell header place (omega (arith, within))

pub one_more : (header : Cells) (place : ℕ) → place < length header →
    take (place + 1) header ≡ take place header ++ cell_at header place ∷ []
one_more header place less =
    take_more header place [] less ∙ ap (λ cell. take place header ++ cell ∷ []) (cell_is header place)

contains_at : (names : List (List ℕ)) (number : ℕ) (name : List ℕ) → slice_get names number ≡ Some name →
    Contains names name
contains_at names number name there =
    subst (Contains names) (get_or_from_slice_get names number name [] there)
    (Contains-get_or names number [] (slice_get_within names number name there))

module _ (names : List (List ℕ)) (header : Cells) (place : ℕ) (hold : HoldNames names header place) where
  -- an empty name is none
  pub empty_more : place < length header → cell_at header place ≡ [] →
      HoldNames names header (place + 1) × ¬ IsRepeated header place
  empty_more less empty = (
    λ name some. (
      λ there. rw (one_more header place less)
          (Contains-append_left (take place header) (cell_at header place ∷ []) name ((hold name some).0 there)),
      λ there. elim (Contains-push_cases (take place header) (cell_at header place) name
          (rw (one_more header place less) at there)) [
            | inl before ↦ (hold name some).1 before
            | inr last ↦ absurd (some (sym last ∙ empty))
          ],
    ),
    λ repeated. repeated.0 empty,
  )

  -- a new name is added
  pub name_more : (number : ℕ) (after : List (List ℕ)) → place < length header → cell_at header place ≢ [] →
      ¬ Contains names (cell_at header place) → IsNumbered names (cell_at header place) number after →
      HoldNames after header (place + 1) × ¬ IsRepeated header place
  name_more number after less some none is =
      let own = cell_at header place in
      let added : after ≡ names ++ own ∷ [] = elim (grown names own) [
        | inl same ↦ absurd (none (subst (λ all. Contains all own) (is.added ∙ same)
            (contains_at after number own is.at)))
        | inr more ↦ is.added ∙ more.0
      ] in (
        λ name some. rw (added, one_more header place less) (
          λ there. elim (Contains-push_cases names own name there) [
            | inl before ↦ Contains-append_left (take place header) (own ∷ []) name ((hold name some).0 before)
            | inr last ↦ subst (Contains (take place header ++ own ∷ [])) last (Contains-push (take place header) own)
          ],
          λ there. elim (Contains-push_cases (take place header) own name there) [
            | inl before ↦ Contains-append_left names (own ∷ []) name ((hold name some).1 before)
            | inr last ↦ subst (Contains (names ++ own ∷ [])) last (Contains-push names own)
          ],
        ),
        λ repeated. none ((hold own some).1 repeated.1),
      )

  -- or it is one of those before
  name_again : (number : ℕ) → cell_at header place ≢ [] → slice_get names number ≡ Some (cell_at header place) →
      IsRepeated header place
  name_again number some there =
      (some, (hold (cell_at header place) some).0 (contains_at names number (cell_at header place) there))

  pub name_found : (found : Option ℕ) → cell_at header place ≢ [] →
      IfSome found (λ number. slice_get names number ≡ Some (cell_at header place)) → is_some found ≡ true →
      IsRepeated header place
  name_found None some there is = absurd (false≢true is)
  name_found (Some number) some there is = name_again number some there

-- before the first column there is no name
pub names_none : (header : Cells) → HoldNames [] header 0
names_none header = λ name some. (λ there. absurd (nothing name there), λ there. absurd (nothing name there))

-- no name is repeated up to the next place
pub names_up : (header : Cells) (place : ℕ) → ((before : ℕ) → before < place → ¬ IsRepeated header before) →
    ¬ IsRepeated header place → (before : ℕ) → before < place + 1 → ¬ IsRepeated header before
names_up header place none last before less = elim (cases_lt before place) [
  | inl early ↦ none before early
  | inr late ↦ subst (λ k. ¬ IsRepeated header k) (omega (arith, late, less)) last
]

-- nor behind the last
pub all_names : (header : Cells) (places : ℕ) → length header ≤ places →
    ((before : ℕ) → before < places → ¬ IsRepeated header before) → AreNames header
all_names header places within none place = elim (cases_lt place places) [
  | inl early ↦ none place early
  | inr late ↦ λ repeated. repeated.0 (no_cell header place (omega (arith, within, late)))
]

-- what a test of a text says
pub empty_text : (xs : List ℕ) → length xs ≡ 0 → xs ≡ []
empty_text [] none = refl
empty_text (x ∷ xs) none = absurd (omega (arith, none))

pub found_none : {X : Type 0} (found : Option X) (P : Type 0) → IfNone found P → is_some found ≡ false → P
found_none None P is none = is
found_none (Some x) P is none = absurd (false≢true (sym none))
