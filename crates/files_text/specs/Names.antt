-- Names, and their numbers.
use Rattle.std.specs.Prelude.{◌≡◌, ℕ, List, [], ◌∷◌, ◌++◌, Some, if◌then◌else◌, nat_eq, slice_get}
use Rattle.std.specs.List.{fold, list_any}
use Rattle.std.specs.Cmp.Lexicographic.{pointwise}

-- the names with one more, which is the last unless it is there
abbrev pub with_name : List (List ℕ) → List ℕ → List (List ℕ)
with_name names name = if list_any (pointwise nat_eq name) names then names else names ++ name ∷ []

-- the names in a text, in the order in which they first come
abbrev pub names_in : List (List ℕ) → List (List ℕ)
names_in words = fold with_name [] words

-- a name got its number
pub record IsNumbered (names : List (List ℕ)) (name : List ℕ) (number : ℕ) (after : List (List ℕ))
    : Type 0 where
  pub at : slice_get after number ≡ Some name
  pub added : after ≡ with_name names name
