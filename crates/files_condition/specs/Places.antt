-- Where words stop being a condition.
use Rattle.std.specs.Prelude.{◌≡◌, ◌≢◌, ◌↔◌, ◌⊎◌, ℕ, ◌+◌, ◌≤◌, Bool, true, List, [], ◌∷◌, ◌++◌, length, All, codes, ⊤}
use Rattle.files_condition.specs.declared.fault.ConditionFault.{ConditionFault}
use Rattle.files_condition.specs.declared.fault.ConditionFault.TheVariants.{Memory, Word}
use Rattle.files_condition.specs.declared.words.Mark.TheVariants.{And, Close, Compares, Not, Open, Or}
use Rattle.files_condition.specs.Conditions.{AreCondition, IsKey, Test, Tree}
use Rattle.files_condition.specs.Words.{AreWords, AreWordsOf, Token, column_of, mark, text}

-- words that a condition can begin with
pub record CanBegin (words : List Token) : Type 0 where
  pub rest : List Token
  pub tests : List Test
  pub tree : Tree
  pub are_condition : AreCondition (words ++ rest) tests tree

-- a place in a condition: before an operand, after the name of a column, after a relation, after
-- `is`, after `is not`, and after an operand, inside parentheses or not
pub data Place : Type 0 where
  before_operand : Place
  after_name : Place
  after_relation : Place
  after_is : Place
  after_not : Place
  after_operand : (inside : Bool) → Place

-- the words that can stand at a place
abbrev pub CanStand : Place → Token → Type 0
CanStand before_operand (text term) = ⊤
CanStand before_operand (mark Not at) = ⊤
CanStand before_operand (mark Open at) = ⊤
CanStand before_operand (mark sign at) = ⊥
CanStand after_name (text term) = IsKey term (codes "is")
CanStand after_name (mark (Compares relation) at) = ⊤
CanStand after_name (mark sign at) = ⊥
CanStand after_relation (text term) = term.text ≢ []
CanStand after_relation (mark sign at) = ⊥
CanStand after_is (text term) = IsKey term (codes "missing") ⊎ IsKey term (codes "not")
CanStand after_is (mark sign at) = ⊥
CanStand after_not (text term) = IsKey term (codes "missing")
CanStand after_not (mark sign at) = ⊥
CanStand (after_operand inside) (mark And at) = ⊤
CanStand (after_operand inside) (mark Or at) = ⊤
CanStand (after_operand inside) (mark Close at) = inside ≡ true
CanStand (after_operand inside) token = ⊥

-- words that a condition can begin with, up to a place: exactly those that can stand there can be next
pub record LeadTo (words : List Token) (place : Place) : Type 0 where
  pub begin : CanBegin words
  pub next : (token : Token) → CanBegin (words ++ token ∷ []) ↔ CanStand place token

-- the words that go on at a place can't: the first of them can't stand there, or there is none
-- where one must be
abbrev pub Stop : Place → List Token → Type 0
Stop place (token ∷ rest) = ¬ CanStand place token
Stop (after_operand inside) [] = inside ≡ true
Stop place [] = ⊤

-- what is said to be expected at a place, by the words that go on there
abbrev pub expected_at : Place → List Token → List ℕ
expected_at before_operand rest = codes "the name of a column, `!` or `(`"
expected_at after_name rest = codes "`=`, `!=`, `<`, `<=`, `>`, `>=` or `is`"
expected_at after_relation (text term ∷ rest) =
    codes "a value that isn't empty (`NAME is missing` asks for empty cells)"
expected_at after_relation rest = codes "a value"
expected_at after_is rest = codes "`missing` or `not missing`"
expected_at after_not rest = codes "`missing`"
expected_at (after_operand inside) [] = codes "`)`"
expected_at (after_operand inside) (mark Close at ∷ rest) = codes "`&`, `|` or the end"
expected_at (after_operand inside) rest = codes "`&`, `|`, `)` or the end"

-- the column of the first word, or that after the text
abbrev pub column_at : (end : ℕ) → List Token → ℕ
column_at end [] = end
column_at end (token ∷ rest) = column_of token

-- the first words that are no condition: all before them can begin one
pub record IsFirstFault (end : ℕ) (words : List Token) (column : ℕ) (expected : List ℕ) : Type 0 where
  pub before : List Token
  pub rest : List Token
  pub cut : words ≡ before ++ rest
  pub place : Place
  pub lead : LeadTo before place
  pub stop : Stop place rest
  pub column_is : column ≡ column_at end rest
  pub expected_is : expected ≡ expected_at place rest

-- a quote is open at the end of a text, after at most 1000 words
pub record IsUnclosed (whole : List ℕ) (column : ℕ) (expected : List ℕ) : Type 0 where
  pub words : List Token
  pub at : ℕ
  pub inside : List ℕ
  pub are_words : AreWords 1 whole words at (34 ∷ inside)
  pub few : length words ≤ 1000
  pub unclosed : All (λ byte. byte ≢ 34) inside
  pub column_is : column ≡ length whole + 1
  pub expected_is : expected ≡ codes "a closing `\"`"

-- one word follows 1000 others
pub record IsLong (whole : List ℕ) (column : ℕ) (expected : List ℕ) : Type 0 where
  pub words : List Token
  pub token : Token
  pub after : ℕ
  pub rest : List ℕ
  pub are_words : AreWords 1 whole (words ++ token ∷ []) after rest
  pub many : length words ≡ 1000
  pub column_is : column ≡ column_of token
  pub expected_is : expected ≡ codes "at most 1000 words"

-- a text has no words of a condition, for what was expected at a column
abbrev pub HasNoWords : List ℕ → (column : ℕ) → (expected : List ℕ) → Type 0
HasNoWords whole column expected = IsUnclosed whole column expected ⊎ IsLong whole column expected

-- a text is no condition, for what was expected at a column
abbrev pub IsNoCondition : List ℕ → (column : ℕ) → (expected : List ℕ) → Type 0
IsNoCondition whole column expected = HasNoWords whole column expected
    ⊎ ((words : List Token) × AreWordsOf whole words × IsFirstFault (length whole + 1) words column expected)

-- why a text wasn't cut into words
abbrev pub IsWordFault : List ℕ → ConditionFault → Type 0
IsWordFault whole Memory = ⊤
IsWordFault whole (Word column expected) = HasNoWords whole column expected.now

-- why a text wasn't read as a condition
abbrev pub IsConditionFault : List ℕ → ConditionFault → Type 0
IsConditionFault whole Memory = ⊤
IsConditionFault whole (Word column expected) = IsNoCondition whole column expected.now
