-- Which columns of a table a condition asks about, and what it compares them with.
use Rattle.std.specs.Prelude.{◌≡◌, ◌≢◌, ◌↔◌, ◌⊎◌, ℕ, ◌<◌, Bool, true, false, Contains, List, [], Some, take}
use Rattle.std.specs.List.{AllZip}
use Rattle.csv.specs.Records.{field_at}
use Rattle.files_condition.specs.Numbers.{IsNumber}
use Rattle.files_condition.specs.declared.condition.Comparison.{Comparison}
use Rattle.files_condition.specs.declared.condition.Operand.{Operand}
use Rattle.files_condition.specs.declared.condition.Question.{Question}
use Rattle.files_condition.specs.declared.condition.Question.TheVariants as question
use Rattle.files_filter.specs.Answers.{IsNumeric, cell_at}
use Rattle.files_filter.specs.Reading.{Cells}
use Rattle.files_filter.specs.declared.comparing.Kind.{Kind}
use Rattle.files_filter.specs.declared.comparing.Kind.TheVariants.{Compared, Missing}
use Rattle.files_filter.specs.declared.comparing.Other.{Other}
use Rattle.files_filter.specs.declared.comparing.Other.TheVariants.{Column, Number, Text}
use Rattle.files_filter.specs.declared.comparing.Test.{Test}

-- the first column with a name, which isn't empty
pub record IsColumn (header : Cells) (name : List ℕ) (place : ℕ) : Type 0 where
  pub some : name ≢ []
  pub here : field_at header place ≡ Some name
  pub first : (before : ℕ) → before < place → field_at header before ≢ Some name

-- no column has a name, or it is empty
abbrev pub IsNoColumn : Cells → List ℕ → Type 0
IsNoColumn header name = (name ≡ []) ⊎ ((place : ℕ) → field_at header place ≢ Some name)

-- the name of a column, which isn't empty, is that of one before
abbrev pub IsRepeated : Cells → (place : ℕ) → Type 0
IsRepeated header place = (cell_at header place ≢ []) × Contains (take place header) (cell_at header place)

-- no two columns have one name, which isn't empty
abbrev pub AreNames : Cells → Type 0
AreNames header = (place : ℕ) → ¬ IsRepeated header place

-- the names of the columns before a place, but for empty ones
abbrev pub HoldNames : (names : List (List ℕ)) → Cells → (place : ℕ) → Type 0
HoldNames names header place = (name : List ℕ) → name ≢ [] → Contains names name ↔ Contains (take place header) name

-- what a value without quotes is: the column of that name, or else a number, or else a text
abbrev pub IsPlain : Cells → Operand → Other → Type 0
IsPlain header value (Column place) = IsColumn header value.text.now place
IsPlain header value (Number number) = IsNoColumn header value.text.now × IsNumber value.text.now number
IsPlain header value (Text text) =
    IsNoColumn header value.text.now × (¬ IsNumeric value.text.now) × (text ≡ value)

-- and one in quotes: a text
abbrev pub IsText : Operand → Other → Type 0
IsText value (Text text) = text ≡ value
IsText value other = ⊥

abbrev pub IsOther : Cells → Operand → (is_quoted : Bool) → Other → Type 0
IsOther header value true other = IsText value other
IsOther header value false other = IsPlain header value other

-- what a question asks of a cell
abbrev pub Asks : Cells → Question → Kind → Type 0
Asks header (question.Missing wanted) (Missing is_missing) = is_missing ≡ wanted
Asks header (question.Compared wanted value) (Compared relation other) =
    (relation ≡ wanted) × IsOther header value value.is_quoted other
Asks header question kind = ⊥

-- the test of a comparison: its column, and what is asked of it
pub record IsTest (header : Cells) (comparison : Comparison) (test : Test) : Type 0 where
  pub column : IsColumn header comparison.column.text.now test.place
  pub asks : Asks header comparison.question test.kind

-- the tests of comparisons
abbrev pub AreTests : Cells → List Comparison → List Test → Type 0
AreTests header comparisons tests = AllZip (IsTest header) comparisons tests
