-- Conditions: their comparisons, and how `!`, `&`, `|` and parentheses join them.
use Rattle.std.specs.Prelude.{◌≡◌, ◌≢◌, ℕ, ◌+◌, Bool, true, false, List, [], ◌∷◌, ◌++◌, length, codes}
use Rattle.files_condition.specs.declared.condition.Comparison.{Comparison}
use Rattle.files_condition.specs.declared.condition.Question.{Question}
use Rattle.files_condition.specs.declared.condition.Question.TheVariants.{Compared, Missing}
use Rattle.files_condition.specs.declared.condition.Relation.{Relation}
use Rattle.files_condition.specs.declared.words.Mark.TheVariants.{And, Close, Compares, Not, Open, Or}
use Rattle.files_condition.specs.Words.{AreWordsOf, Term, Token, mark, term_of, text}
use Rattle.vob_filter.specs.declared.filter.Expression.{Expression}
use Rattle.vob_filter.specs.declared.filter.Expression.TheVariants.{Column, And', Or', Not'}

-- what is asked of a column: whether its cell is missing or isn't, or how it compares with a value
pub data Asked : Type 0 where
  missing : Bool → Asked
  compared : Relation → Term → Asked

-- a comparison: a column, and what is asked of it
pub record Test : Type 0 where
  pub column : Term
  pub asked : Asked

-- an expression over comparisons, by their numbers
pub data Tree : Type 0 where
  comparison : ℕ → Tree
  both : Tree → Tree → Tree
  either : Tree → Tree → Tree
  contrary : Tree → Tree

-- what a question asks
abbrev pub asked_of : Question → Asked
asked_of (Missing is_missing) = missing is_missing
asked_of (Compared relation value) = compared relation (term_of value)

-- a comparison, whatever place of memory its texts have
abbrev pub test_of : Comparison → Test
test_of given = record { column = term_of given.column; asked = asked_of given.question }

-- an expression, whatever places of memory its parts have
abbrev pub tree_of : Expression → Tree
tree_of (Column number) = comparison number
tree_of (And' p a q b) = both (tree_of a) (tree_of b)
tree_of (Or' p a q b) = either (tree_of a) (tree_of b)
tree_of (Not' p a) = contrary (tree_of a)

-- a word of the language, which stands without quotes
pub record IsKey (term : Term) (key : List ℕ) : Type 0 where
  pub text_is : term.text ≡ key
  pub plain : term.is_quoted ≡ false

-- the words of a comparison
pub data IsComparison : List Token → Test → Type 0 where
  asks_value : {at : ℕ} (name value : Term) (relation : Relation) → value.text ≢ [] →
      IsComparison (text name ∷ mark (Compares relation) at ∷ text value ∷ [])
      (record { column = name; asked = compared relation value })
  asks_missing : (name is last : Term) → IsKey is (codes "is") → IsKey last (codes "missing") →
      IsComparison (text name ∷ text is ∷ text last ∷ []) (record { column = name; asked = missing true })
  asks_present : (name is no last : Term) → IsKey is (codes "is") → IsKey no (codes "not") →
      IsKey last (codes "missing") →
      IsComparison (text name ∷ text is ∷ text no ∷ text last ∷ [])
      (record { column = name; asked = missing false })

-- how loosely words are joined: `!` binds most tightly, then `&`, then `|`
pub data Level : Type 0 where
  operand : Level
  conjunction : Level
  disjunction : Level

-- the words of an expression, its comparisons in their order, and the expression over their numbers,
-- which go on from those of the comparisons before
pub data IsExpression : Level → (before : ℕ) → List Token → List Test → Tree → Type 0 where
  compares : {n : ℕ} {words : List Token} {test : Test} → IsComparison words test →
      IsExpression operand n words (test ∷ []) (comparison n)
  negated : {n at : ℕ} {words : List Token} {tests : List Test} {tree : Tree} →
      IsExpression operand n words tests tree →
      IsExpression operand n (mark Not at ∷ words) tests (contrary tree)
  grouped : {n at : ℕ} (to : ℕ) {words : List Token} {tests : List Test} {tree : Tree} →
      IsExpression disjunction n words tests tree →
      IsExpression operand n (mark Open at ∷ (words ++ mark Close to ∷ [])) tests tree
  one_operand : {n : ℕ} {words : List Token} {tests : List Test} {tree : Tree} →
      IsExpression operand n words tests tree → IsExpression conjunction n words tests tree
  one_conjunction : {n : ℕ} {words : List Token} {tests : List Test} {tree : Tree} →
      IsExpression conjunction n words tests tree → IsExpression disjunction n words tests tree
  conjoined : {n : ℕ} (at : ℕ) {words others : List Token} {tests more : List Test} {first second : Tree} →
      IsExpression conjunction n words tests first →
      IsExpression operand (n + length tests) others more second →
      IsExpression conjunction n (words ++ mark And at ∷ others) (tests ++ more) (both first second)
  disjoined : {n : ℕ} (at : ℕ) {words others : List Token} {tests more : List Test} {first second : Tree} →
      IsExpression disjunction n words tests first →
      IsExpression conjunction (n + length tests) others more second →
      IsExpression disjunction n (words ++ mark Or at ∷ others) (tests ++ more) (either first second)

-- words that are a condition
abbrev pub AreCondition : List Token → List Test → Tree → Type 0
AreCondition words tests tree = IsExpression disjunction 0 words tests tree

-- a text is a condition: its comparisons in their order, and the expression over their numbers
pub record IsCondition (whole : List ℕ) (tests : List Test) (tree : Tree) : Type 0 where
  pub words : List Token
  pub are_words : AreWordsOf whole words
  pub are_condition : AreCondition words tests tree
