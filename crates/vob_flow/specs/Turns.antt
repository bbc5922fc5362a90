-- Passes over sets that change them: in each, every set has its turn, in the same order.
use Rattle.std.specs.Prelude.{◌≡◌, ◌≢◌, ℕ, ◌+◌, ◌<◌, Bool, List, length, slice_index_or, All, Contains}

-- each of the first n numbers once, and the place of each
pub record IsOrder (n : ℕ) (order : List ℕ) : Type 0 where
  pub inside : All (λ k. k < n) order
  pub whole : (k : ℕ) → k < n → Contains order k
  pub place : ℕ → ℕ
  pub places : (j : ℕ) → j < length order → place (slice_index_or order j 0) ≡ j

-- what some sets become as the first i sets of an order have their turns, one after another
pub data TakeTurns (Turn : ℕ → List (List Bool) → List (List Bool) → Type 0) (order : List ℕ)
    (sets : List (List Bool)) : ℕ → List (List Bool) → Type 0 where
  no_turn : TakeTurns Turn order sets 0 sets
  one_more : {i : ℕ} {mid after : List (List Bool)} → TakeTurns Turn order sets i mid →
      Turn (slice_index_or order i 0) mid after → TakeTurns Turn order sets (i + 1) after

-- what some sets become by so many passes, each of which changes them
pub data ChangeInPasses (Turn : ℕ → List (List Bool) → List (List Bool) → Type 0) (order : List ℕ)
    (sets : List (List Bool)) : ℕ → List (List Bool) → Type 0 where
  no_pass : ChangeInPasses Turn order sets 0 sets
  one_more : {k : ℕ} {mid after : List (List Bool)} → ChangeInPasses Turn order sets k mid →
      TakeTurns Turn order mid (length order) after → after ≢ mid →
      ChangeInPasses Turn order sets (k + 1) after

-- so many passes until one changed nothing, which is counted too
pub record ArePasses (Turn : ℕ → List (List Bool) → List (List Bool) → Type 0)
    (starts sets : List (List Bool)) (passes : ℕ) : Type 0 where
  pub order : List ℕ
  pub each_once : IsOrder (length starts) order
  pub changing : ℕ
  pub change : ChangeInPasses Turn order starts changing sets
  pub last : TakeTurns Turn order sets (length order) sets
  pub is : passes ≡ changing + 1
