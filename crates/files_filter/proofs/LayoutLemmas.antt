-- The columns that are written, one after another.
use Rattle.std.specs.Prelude.{map}
use Rattle.std.proofs.Common.{◌≡◌, ◌∙◌, ◌+◌, ◌<◌, ◌≤◌, ℕ, List, [], ◌∷◌, ◌++◌, ap, get_or, length, subst, sym, take}
use Rattle.std.proofs.lemmas.List.{get_or-map, length-map, map-append, take_more}
use Rattle.files_filter.specs.Answers.{cell_at}
use Rattle.files_filter.specs.Reading.{Cells}
use Rattle.files_filter.proofs.HeaderLemmas.{cell_is, no_cell, one_more}

-- the cell at a place that is picked
pub picked_there : (cells : Cells) (places : List ℕ) (number place : ℕ) → number < length places →
    place ≡ get_or places number 0 → cell_at cells place ≡ cell_at (map (cell_at cells) places) number
picked_there cells places number place less is =
    ap (cell_at cells) is ∙ sym (get_or-map (cell_at cells) places number 0 [] less)
    ∙ cell_is (map (cell_at cells) places) number

pub picked_past : (cells : Cells) (places : List ℕ) (number : ℕ) → length places ≤ number →
    [] ≡ cell_at (map (cell_at cells) places) number
picked_past cells places number past =
    sym (no_cell (map (cell_at cells) places) number
    (subst (λ n. n ≤ number) (sym (length-map places (cell_at cells))) past))

-- one more cell is picked
pub more_picked : (f : ℕ → List ℕ) (places : List ℕ) (number : ℕ) (part : Cells) (cell : List ℕ) →
    number < length places → part ≡ map f (take number places) → cell ≡ f (get_or places number 0) →
    part ++ cell ∷ [] ≡ map f (take (number + 1) places)
more_picked f places number part cell less before is =
    ap (λ first. first ++ cell ∷ []) before ∙ ap (λ last. map f (take number places) ++ last ∷ []) is
    ∙ sym (map-append f (take number places) (get_or places number 0 ∷ []))
    ∙ ap (map f) (sym (take_more places number 0 less))

-- one more cell of a row, each turned by f
pub more_turned : {X : Type 0} (f : List ℕ → X) (cells : Cells) (place : ℕ) (xs : List X) (x : X) → place < length cells →
    xs ≡ map f (take place cells) → x ≡ f (cell_at cells place) → xs ++ x ∷ [] ≡ map f (take (place + 1) cells)
more_turned f cells place xs x less before is =
    ap (λ first. first ++ x ∷ []) before ∙ ap (λ last. map f (take place cells) ++ last ∷ []) is
    ∙ sym (map-append f (take place cells) (cell_at cells place ∷ [])) ∙ ap (map f) (sym (one_more cells place less))
