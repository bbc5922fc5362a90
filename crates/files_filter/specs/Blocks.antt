-- Blocks of the rows of a table.
use Rattle.std.specs.Prelude.{◌≡◌, ◌≢◌, ◌++◌, ◌∷◌, [], ℕ, All, Bool, List, Option, Some, None, map, slice_index_or}
use Rattle.csv.specs.Records.{fields_of}
use Rattle.files_filter.specs.Answers.{AreAnswers}
use Rattle.files_filter.specs.RowFaults.{IsRowFault, below_header, header_of}
use Rattle.files_filter.specs.FilterText.{Answered, answered}
use Rattle.files_filter.specs.Reading.{AreAllRows, Cells, Delimited, HasRead}
use Rattle.files_filter.specs.Watching.{IsWatched}
use Rattle.files_filter.specs.declared.block.Block.{Block}
use Rattle.files_filter.specs.declared.block.Next.{Next}
use Rattle.files_filter.specs.declared.block.Next.TheVariants.{End, Fault, Rows}
use Rattle.files_filter.specs.declared.block.Row.{Row}
use Rattle.files_filter.specs.declared.comparing.Test.{Test}
use Rattle.files_filter.specs.declared.questions.Questions.{Questions}
use Rattle.files_filter.specs.declared.table.Table.{Table}

-- what each comparison is in row i
abbrev pub answers_at : List Row → ℕ → List (Option Bool)
answers_at rows i = slice_index_or (map (λ row. row.answers.items) rows) i []

-- each row with the answers to some tests
abbrev pub AnswerAll : List Test → List Answered → Type 0
AnswerAll tests rows = All (λ row. AreAnswers tests row.0 row.1) rows

-- a table of which these rows were read, its header among them, and the guards of a condition have seen those below
pub record HasAsked {R : Type 0} (remaining : R → Option (List ℕ)) (text : Delimited) (rows : List Cells)
    (table : Table R) (questions : Questions) : Type 0 where
  pub read : HasRead remaining text rows table
  pub some : rows ≢ []
  pub header : header_of rows ≡ fields_of table.header
  pub watched : All (IsWatched (header_of rows) (below_header rows) questions.tests.items) questions.guards.items

-- a table after one more row, or after all
abbrev pub AsksRow : {R : Type 0} → (R → Option (List ℕ)) → Delimited → List Cells → Table R → Questions →
    Option Row → Type 0
AsksRow remaining text rows table questions None = AreAllRows text rows
AsksRow remaining text rows table questions (Some row) =
    HasAsked remaining text (rows ++ fields_of row.cells ∷ []) table questions

-- a table after a block: rows may come, all were read, or there is a fault
abbrev pub Follows : {R : Type 0} → (R → Option (List ℕ)) → Delimited → List Cells → Table R → Questions →
    Next → Type 0
Follows remaining text rows table questions Rows = HasAsked remaining text rows table questions
Follows remaining text rows table questions End = AreAllRows text rows
Follows remaining text rows table questions (Fault fault) = IsRowFault text rows questions.tests.items fault

-- a table after the rows of a block
abbrev pub AsksBlock : {R : Type 0} → (R → Option (List ℕ)) → Delimited → List Cells → Table R → Questions →
    Block → Type 0
AsksBlock remaining text rows table questions block =
    Follows remaining text (rows ++ map (λ row. row.0) (map answered block.rows.items)) table questions block.next
