-- Edges by numbers are those by names.
use Rattle.std.specs.Prelude.{slice_get, Contains, ◌↔◌}
use Rattle.std.proofs.Common.{◌≡◌, ◌⊎◌, inl, inr, ℕ, zero, suc, ◌<◌, Some, List, [], ◌∷◌, ◌++◌, length, arith, refl, sym, ap, subst, ◌∙◌}
use Rattle.std.specs.List.{fold}
use Rattle.std.proofs.lemmas.Option.{same_Some, none-some}
use Rattle.files_text.specs.Names.{names_in, with_name}
use Rattle.files_text.proofs.ListLemmas.{nothing, first, first_or_later, later}
use Rattle.files_text.proofs.NamesLemmas.{grown}
use Rattle.files_dot.specs.Graphs.{AreNumbers, JoinsNames}

-- each name stands at one place
abbrev pub Distinct : List (List ℕ) → Type 0
Distinct names = (i j : ℕ) (x : List ℕ) → slice_get names i ≡ Some x → slice_get names j ≡ Some x → i ≡ j

pub inside : {X : Type 0} (xs : List X) (i : ℕ) (x : X) → slice_get xs i ≡ Some x → i < length xs
inside [] i x there = absurd (none-some x there)
inside (y ∷ xs) zero x there = omega arith
inside (y ∷ xs) (suc i) x there = omega (arith, inside xs i x there)

pub has : {X : Type 0} (xs : List X) (i : ℕ) (x : X) → slice_get xs i ≡ Some x → Contains xs x
has [] i x there = absurd (none-some x there)
has (y ∷ xs) zero x there = subst (Contains (y ∷ xs)) (same_Some y x there) (first y xs)
has (y ∷ xs) (suc i) x there = later y xs x (has xs i x there)

at_end : {X : Type 0} (xs : List X) (y : X) (i : ℕ) (x : X) → slice_get (xs ++ y ∷ []) i ≡ Some x →
    (slice_get xs i ≡ Some x) ⊎ ((i ≡ length xs) × (y ≡ x))
at_end [] y zero x there = inr (refl, same_Some y x there)
at_end [] y (suc i) x there = absurd (none-some x there)
at_end (z ∷ xs) y zero x there = inl there
at_end (z ∷ xs) y (suc i) x there = elim (at_end xs y i x there) [
  | inl old ↦ inl old
  | inr last ↦ inr (ap suc last.0, last.1)
]

distinct_more : (names : List (List ℕ)) (name : List ℕ) → ¬ Contains names name → Distinct names →
    Distinct (names ++ name ∷ [])
distinct_more names name new distinct i j x at_i at_j =
    elim (at_end names name i x at_i) [
      | inl old ↦ elim (at_end names name j x at_j) [
        | inl same ↦ distinct i j x old same
        | inr last ↦ absurd (new (subst (Contains names) (sym last.1) (has names i x old)))
      ]
      | inr end ↦ elim (at_end names name j x at_j) [
        | inl old ↦ absurd (new (subst (Contains names) (sym end.1) (has names j x old)))
        | inr last ↦ end.0 ∙ sym last.0
      ]
    ]

distinct_with : (names : List (List ℕ)) (name : List ℕ) → Distinct names → Distinct (with_name names name)
distinct_with names name distinct = elim (grown names name) [
  | inl same ↦ subst Distinct (sym same) distinct
  | inr more ↦ subst Distinct (sym more.0) (distinct_more names name more.1 distinct)
]

distinct_fold : (words names : List (List ℕ)) → Distinct names → Distinct (fold with_name names words)
distinct_fold [] names distinct = distinct
distinct_fold (word ∷ words) names distinct = distinct_fold words (with_name names word) (distinct_with names word distinct)

none_distinct : Distinct []
none_distinct i j x at_i at_j = absurd (none-some x at_i)

names_distinct : (words : List (List ℕ)) → Distinct (names_in words)
names_distinct words = distinct_fold words [] none_distinct

pub distinct_names : (words names : List (List ℕ)) → names ≡ names_in words → Distinct names
distinct_names words names named = subst Distinct (sym named) (names_distinct words)

module _ (names : List (List ℕ)) where
  edge_of : (edges : List (List ℕ × List ℕ)) (pairs : List (ℕ × ℕ)) → AreNumbers names edges pairs → (n m : ℕ) →
      Contains pairs (n, m) → JoinsNames names edges n m
  edge_of [] [] are n m there = absurd (nothing (n, m) there)
  edge_of [] (pair ∷ pairs) are n m there = absurd are
  edge_of (edge ∷ edges) [] are n m there = absurd are
  edge_of (edge ∷ edges) (pair ∷ pairs) are n m there = elim (first_or_later pair pairs (n, m) there) [
    | inl same ↦ (
      edge.0,
      edge.1,
      first edge edges,
      subst (λ (p : ℕ × ℕ). slice_get names p.0 ≡ Some edge.0) same are.0,
      subst (λ (p : ℕ × ℕ). slice_get names p.1 ≡ Some edge.1) same are.1,
    )
    | inr after ↦ let found = edge_of edges pairs are.2 n m after in
        (found.0, found.1, later edge edges (found.0, found.1) found.2, found.3, found.4)
  ]

  pair_of : (edges : List (List ℕ × List ℕ)) (pairs : List (ℕ × ℕ)) → AreNumbers names edges pairs →
      (edge : List ℕ × List ℕ) → Contains edges edge →
      (pair : ℕ × ℕ) × Contains pairs pair × (slice_get names pair.0 ≡ Some edge.0) × (slice_get names pair.1 ≡ Some edge.1)
  pair_of [] [] are edge there = absurd (nothing edge there)
  pair_of [] (pair ∷ pairs) are edge there = absurd are
  pair_of (e ∷ edges) [] are edge there = absurd are
  pair_of (e ∷ edges) (pair ∷ pairs) are edge there = elim (first_or_later e edges edge there) [
    | inl same ↦ (
      pair,
      first pair pairs,
      are.0 ∙ ap (λ (x : List ℕ × List ℕ). Some x.0) same,
      are.1 ∙ ap (λ (x : List ℕ × List ℕ). Some x.1) same,
    )
    | inr after ↦ let found = pair_of edges pairs are.2 edge after in
        (found.0, later pair pairs found.0 found.1, found.2, found.3)
  ]

module _ (words names : List (List ℕ)) (edges : List (List ℕ × List ℕ)) (pairs : List (ℕ × ℕ))
    (named : names ≡ names_in words) (numbers : AreNumbers names edges pairs) where
  pub pairs_inside : (n m : ℕ) → Contains pairs (n, m) → (n < length names) × (m < length names)
  pairs_inside n m there =
      let found = edge_of names edges pairs numbers n m there in
      (inside names n found.0 found.3, inside names m found.1 found.4)

  pub pairs_join : (n m : ℕ) → Contains pairs (n, m) ↔ JoinsNames names edges n m
  pairs_join n m = (
    edge_of names edges pairs numbers n m,
    λ joins.
        let found = pair_of names edges pairs numbers (joins.0, joins.1) joins.2 in
        let from : found.0.0 ≡ n = distinct_names words names named found.0.0 n joins.0 found.2 joins.3 in
        let to : found.0.1 ≡ m = distinct_names words names named found.0.1 m joins.1 found.3 joins.4 in
        subst (λ k. Contains pairs (n, k)) to (subst (λ k. Contains pairs (k, found.0.1)) from found.1),
  )
