-- A text is one condition, or it has one fault.
use Rattle.std.specs.Prelude.{◌≡◌, ℕ, List}
use Rattle.files_condition.specs.Conditions.{IsCondition, Test, Tree}
use Rattle.files_condition.specs.Places.{IsNoCondition}
use Rattle.files_condition.specs.Words.{AreWordsOf, Token}

-- a text has at most one list of words
abbrev pub WordsAreOne : Type 0
WordsAreOne = (whole : List ℕ) (words others : List Token) → AreWordsOf whole words →
    AreWordsOf whole others → words ≡ others

-- a text has at most one list of comparisons, and one expression over them
abbrev pub ConditionsAreOne : Type 0
ConditionsAreOne = (whole : List ℕ) (tests others : List Test) (tree other : Tree) →
    IsCondition whole tests tree → IsCondition whole others other → (tests ≡ others) × (tree ≡ other)

-- no text is a condition and has a fault
abbrev pub ConditionsHaveNoFault : Type 0
ConditionsHaveNoFault = (whole : List ℕ) (tests : List Test) (tree : Tree) (column : ℕ) (expected : List ℕ) →
    IsCondition whole tests tree → ¬ IsNoCondition whole column expected

-- a text has at most one fault
abbrev pub FaultsAreOne : Type 0
FaultsAreOne = (whole : List ℕ) (column other : ℕ) (expected said : List ℕ) → IsNoCondition whole column expected →
    IsNoCondition whole other said → (column ≡ other) × (expected ≡ said)
