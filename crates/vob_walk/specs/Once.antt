-- What pulls at both ends give together: each index once.
use Rattle.std.specs.Prelude.{◌≡◌, ℕ, Bool, List, [], ◌∷◌, ◌++◌, reverse, Option, Some, None, Contains}
use Rattle.std.specs.declared.ops.Bound.{Bound}
use Rattle.vob_walk.specs.declared.walk.End.{End}
use Rattle.vob_walk.specs.declared.walk.End.TheVariants.{Front, Back}
use Rattle.vob_walk.specs.Matches.{matches}
use Rattle.vob_walk.specs.Walk.{Walk, IsWhole, answers, left_after}

-- the indices that the pulls at one end gave, in order
unfoldable pub given_at : End → List End → List (Option ℕ) → List ℕ
given_at Front (Front ∷ pulls) (Some i ∷ others) = i ∷ given_at Front pulls others
given_at Back (Back ∷ pulls) (Some i ∷ others) = i ∷ given_at Back pulls others
given_at side (pull ∷ pulls) (answer ∷ others) = given_at side pulls others
given_at side pulls others = []

-- what the front gave, and what the back gave
abbrev pub front_given : List ℕ → List End → List ℕ
front_given xs pulls = given_at Front pulls (answers xs pulls)

-- the last one that the back gave is the first here
abbrev pub back_given : List ℕ → List End → List ℕ
back_given xs pulls = reverse (given_at Back pulls (answers xs pulls))

-- what the front gave, what is left, and what the back gave are the list: nothing is given twice,
-- and nothing is left out
abbrev pub EachIsGivenOnce : Type 0
EachIsGivenOnce =
    (xs : List ℕ) (pulls : List End)
    → front_given xs pulls ++ (left_after xs pulls ++ back_given xs pulls) ≡ xs

-- so at a walk that has given nothing yet, they are the indices that match
abbrev pub MatchesAreGivenOnce : Type 0
MatchesAreGivenOnce =
    (walk : Walk) (bits : List Bool) (value : Bool) (low high : Bound ℕ) (width : ℕ)
    (pulls : List End) → IsWhole walk bits value low high width
    → front_given walk.rest pulls ++ (left_after walk.rest pulls ++ back_given walk.rest pulls)
    ≡ matches bits value low high

-- after a pull that gave nothing, nothing is left, and all was given
abbrev pub NoneComesLast : Type 0
NoneComesLast =
    (xs : List ℕ) (pulls : List End) → Contains (answers xs pulls) None
    → (left_after xs pulls ≡ []) × (front_given xs pulls ++ back_given xs pulls ≡ xs)
