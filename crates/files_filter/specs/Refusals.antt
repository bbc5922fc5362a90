-- Why a condition refuses the rows of a table: it compares numbers with texts.
use Rattle.std.specs.Prelude.{◌≡◌, ◌≢◌, ◌≤◌, ◌⊎◌, ◌∷◌, [], ℕ, All, false, List, codes, length, string_bytes}
use Rattle.std.specs.List.{Any}
use Rattle.std.specs.Str.Lossy.{utf8_lossy}
use Rattle.files_condition.specs.Words.{IsWordText}
use Rattle.files_condition.specs.declared.condition.Relation.{Relation}
use Rattle.files_condition.specs.declared.condition.Relation.TheVariants.{Equal, NotEqual}
use Rattle.files_text.specs.declared.fault.Fault.TheVariants.{Memory}
use Rattle.files_filter.specs.Answers.{IsNumeric, cell_at}
use Rattle.files_filter.specs.Reading.{AreAllRows, Cells, Delimited}
use Rattle.files_filter.specs.declared.comparing.Kind.{Kind}
use Rattle.files_filter.specs.declared.comparing.Kind.TheVariants.{Compared, Missing}
use Rattle.files_filter.specs.declared.comparing.Other.TheVariants as other
use Rattle.files_filter.specs.declared.comparing.Test.{Test}
use Rattle.files_filter.specs.declared.fault.FilterFault.{FilterFault}
use Rattle.files_filter.specs.declared.fault.FilterFault.TheVariants.{Cell, Condition, Text}
use Rattle.files_filter.specs.declared.fault.WrongCell.{WrongCell}

-- there was no memory
abbrev pub IsMemory : FilterFault → Type 0
IsMemory fault = fault ≡ Text Memory

-- some cell of a column is a number
abbrev pub HasNumber : List Cells → (place : ℕ) → Type 0
HasNumber rows place = Any (λ row. IsNumeric (cell_at row place)) rows

-- each cell of a column that isn't empty is a number
abbrev pub HasNoText : List Cells → (place : ℕ) → Type 0
HasNoText rows place = All (λ row. (cell_at row place ≡ []) ⊎ IsNumeric (cell_at row place)) rows

-- a relation asks which of two is less
abbrev pub IsOrdering : Relation → Type 0
IsOrdering relation = (relation ≢ Equal) × (relation ≢ NotEqual)

-- a text as a message has it: a word that isn't long stands as it is
abbrev pub IsShown : (text shown : List ℕ) → Type 0
IsShown text shown = IsWordText text → length text ≤ 40 → shown ≡ utf8_lossy text

-- a cell of a row is a text, and is shown with the name of its column
pub record IsTextCell (header : Cells) (place : ℕ) (wrong : WrongCell) (row : Cells) : Type 0 where
  pub some : cell_at row place ≢ []
  pub text : ¬ IsNumeric (cell_at row place)
  pub name : IsShown (cell_at header place) (string_bytes wrong.name)
  pub cell : IsShown (cell_at row place) (string_bytes wrong.cell)

-- a fault is about a cell of a column that is a text
abbrev pub IsAtText : (header : Cells) (rows : List Cells) (place : ℕ) → FilterFault → Type 0
IsAtText header rows place (Cell wrong) = Any (IsTextCell header place wrong) rows
IsAtText header rows place fault = ⊥

-- a fault is about a text of a condition, and says what should stand there
abbrev pub IsMisread : FilterFault → (at : ℕ) → Type 0
IsMisread (Condition column expected) at = (column ≡ at)
    × (expected.now ≡ codes "a number, as the column has numbers, or a text in quotes")
IsMisread fault at = ⊥

-- what is asked of the cells of a column refuses the rows below a header: a number is compared with a text; of two
-- columns it is asked which is less, and they have a number and a text; a text without quotes is asked to be less, and the
-- column has a number, or has nothing else to the end
abbrev pub RefusesKind : Delimited → (header : Cells) (rows : List Cells) (place : ℕ) → Kind → FilterFault → Type 0
RefusesKind text header rows place (Compared relation (other.Number number)) fault = IsAtText header rows place fault
RefusesKind text header rows place (Compared relation (other.Column second)) fault = IsOrdering relation
    × (HasNumber rows place ⊎ HasNumber rows second)
    × (IsAtText header rows place fault ⊎ IsAtText header rows second fault)
RefusesKind text header rows place (Compared relation (other.Text operand)) fault = (operand.is_quoted ≡ false)
    × IsMisread fault operand.at × HasNumber rows place
    × (IsOrdering relation ⊎ (HasNoText rows place × AreAllRows text (header ∷ rows)))
RefusesKind text header rows place (Missing wanted) fault = ⊥

-- a test refuses the rows below a header
abbrev pub Refuses : Delimited → (header : Cells) (rows : List Cells) → Test → FilterFault → Type 0
Refuses text header rows test fault = RefusesKind text header rows test.place test.kind fault

-- one of some tests does
abbrev pub RefusesBy : Delimited → (header : Cells) (rows : List Cells) → List Test → FilterFault → Type 0
RefusesBy text header rows tests fault = Any (λ test. Refuses text header rows test fault) tests
