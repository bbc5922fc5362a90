-- What holds of some number of a list, and the lists of a graph.
use Rattle.std.proofs.Common.{◌≡◌, ◌↔◌, ◌⊎◌, ℕ, ◌+◌, ◌<◌, inl, inr, List, [], ◌∷◌, ◌++◌, length, take, get_or, ap, ◌∙◌, subst, arith}
use Rattle.std.specs.List.{Any, Contains}
use Rattle.std.proofs.lemmas.Bool.{cases_lt}
use Rattle.std.proofs.lemmas.List.{get_or_past, take_more}
use Rattle.std.proofs.lemmas.List.Elements.{Contains-append_left, Contains-push, Contains-push_cases}

pub Any-map : {A : Type 0} (P Q : A → Type 0) (xs : List A) → ((x : A) → P x → Q x) → Any P xs →
    Any Q xs
Any-map P Q xs f (k, x, less, is, p) = (k, x, less, is, f x p)

pub Any-contained : (P : ℕ → Type 0) (xs : List ℕ) (m : ℕ) → Contains xs m → P m → Any P xs
Any-contained P xs m (k, less, is) p = (k, m, less, is, p)

-- of some number of a list with the same numbers
pub Any-same : (P : ℕ → Type 0) (xs ys : List ℕ) → ((m : ℕ) → Contains xs m ↔ Contains ys m) →
    Any P xs ↔ Any P ys
Any-same P xs ys same = (
  (λ some. Any-contained P ys some.1 ((same some.1).0 (some.0, some.2, some.3)) some.4),
  (λ some. Any-contained P xs some.1 ((same some.1).1 (some.0, some.2, some.3)) some.4),
)

-- a list with one number more
pub contains_next : (xs : List ℕ) (k m v : ℕ) → k < length xs → get_or xs k 0 ≡ m →
    Contains (take (k + 1) xs) v ↔ (Contains (take k xs) v ⊎ (m ≡ v))
contains_next xs k m v less is =
    let more : take (k + 1) xs ≡ take k xs ++ m ∷ [] =
    take_more xs k 0 less ∙ ap (λ n. take k xs ++ n ∷ []) is in
    rw more (
      (λ within. Contains-push_cases (take k xs) m v within),
      (λ either. elim either [
        | inl before ↦ Contains-append_left (take k xs) (m ∷ []) v before
        | inr same ↦ subst (Contains (take k xs ++ m ∷ [])) same (Contains-push (take k xs) m)
      ]),
    )

-- only a node that is there has edges
pub edge_inside : (next : List (List ℕ)) (n m : ℕ) → Contains (get_or next n []) m → n < length next
edge_inside next n m (k, less, is) = elim (cases_lt n (length next)) [
  | inl inside ↦ inside
  | inr past ↦ absurd (omega (arith, ap length (get_or_past next n [] past), less))
]
