-- What a filter writes of the rows of a text.
use Rattle.std.specs.Prelude.{◌≡◌, ◌==◌, ◌++◌, ◌∷◌, [], ℕ, List, Option, if◌then◌else◌, length, map}
use Rattle.std.specs.Fmt.{decimal}
use Rattle.std.specs.Io.KnownBytes.{Appends}
use Rattle.vob_filter.specs.declared.filter.Expression.{Expression}
use Rattle.files_condition.specs.declared.condition.Comparison.{Comparison}
use Rattle.files_condition.specs.Conditions.{IsCondition, test_of, tree_of}
use Rattle.files_text.specs.Printed.{line_end}
use Rattle.files_filter.specs.Blocks.{AnswerAll}
use Rattle.files_filter.specs.Columns.{AreNames, AreTests}
use Rattle.files_filter.specs.FilterText.{Answered, rows_text, shown, top_line, true_rows, windowed}
use Rattle.files_filter.specs.Reading.{AreAllRows, Cells, Delimited, delimited}
use Rattle.files_filter.specs.Layouts.{IsLayout}
use Rattle.files_filter.specs.declared.layout.Format.{Format}
use Rattle.files_filter.specs.declared.layout.Layout.{Layout}
use Rattle.files_filter.specs.declared.comparing.Test.{Test}
use Rattle.files_filter.specs.declared.filter.Shows.{Shows}
use Rattle.files_filter.specs.declared.filter.Shows.TheVariants.{Count, Nothing, Page, Rows}

-- of these rows those are written, in a window, of which a condition is true by its comparisons' answers; it is true of
-- so many
pub record AreWritten (tests : List Test) (expression : Expression) (layout : Layout) (skip : ℕ) (most : Option ℕ)
    (old new : Option (List ℕ)) (found : ℕ) (rows : List Answered) : Type 0 where
  pub answers : AnswerAll tests rows
  pub wrote : Appends old new (rows_text layout (windowed skip most (true_rows expression rows)))
  pub count : found ≡ length (true_rows expression rows)

-- so they are of all rows of a text after some
pub record IsFiltered (text : Delimited) (before : List Cells) (tests : List Test) (expression : Expression)
    (layout : Layout) (skip : ℕ) (most : Option ℕ) (old new : Option (List ℕ)) (found : ℕ) : Type 0 where
  pub rows : List Answered
  pub all : AreAllRows text (before ++ map (λ row. row.0) rows)
  pub written : AreWritten tests expression layout skip most old new found rows

-- what stands above rows, if they are shown
abbrev pub heading : Layout → Shows → Cells → List ℕ
heading layout Rows header = top_line layout header
heading layout (Page number rows) header = top_line layout header
heading layout Count header = []
heading layout Nothing header = []

-- what is shown of the rows of a text below its header, of which a condition is true; it is true of so many
pub record IsShown (text : Delimited) (header : Cells) (tests : List Test) (expression : Expression)
    (layout : Layout) (shows : Shows) (old new : Option (List ℕ)) (found : ℕ) : Type 0 where
  pub rows : List Answered
  pub all : AreAllRows text (header ∷ map (λ row. row.0) rows)
  pub answers : AnswerAll tests rows
  pub wrote : Appends old new (heading layout shows header ++ rows_text layout (shown shows (true_rows expression rows)))
  pub count : found ≡ length (true_rows expression rows)

-- the line of how many rows are kept
abbrev pub count_line : Shows → ℕ → List ℕ
count_line Rows found = []
count_line (Page number rows) found = []
count_line Count found = decimal found ++ line_end
count_line Nothing found = []

-- the status: 1 if nothing is to be shown and no row is kept
abbrev pub status_of : Shows → ℕ → ℕ
status_of Rows found = 0
status_of (Page number rows) found = 0
status_of Count found = 0
status_of Nothing found = if found == 0 then 1 else 0

-- what a condition, by its comparisons, makes of the text of a table, if it is known: what is written, and the status
pub record Filters (known : Option (List ℕ)) (format : Format) (comparisons : List Comparison) (expression : Expression)
    (shows : Shows) (old new : Option (List ℕ)) (status : ℕ) : Type 0 where
  pub header : Cells
  pub tests : List Test
  pub layout : Layout
  pub rows : List Answered
  pub names : AreNames header
  pub tests_are : AreTests header comparisons tests
  pub layout_is : IsLayout header format layout
  pub all : AreAllRows (delimited format.delimiter known) (header ∷ map (λ row. row.0) rows)
  pub answers : AnswerAll tests rows
  pub wrote : Appends old new ((heading layout shows header ++ rows_text layout (shown shows (true_rows expression rows)))
      ++ count_line shows (length (true_rows expression rows)))
  pub status_is : status ≡ status_of shows (length (true_rows expression rows))

-- and what the text of a condition makes of it
pub record FiltersBy (known : Option (List ℕ)) (format : Format) (whole : List ℕ) (shows : Shows)
    (old new : Option (List ℕ)) (status : ℕ) : Type 0 where
  pub comparisons : List Comparison
  pub expression : Expression
  pub read : IsCondition whole (map test_of comparisons) (tree_of expression)
  pub filters : Filters known format comparisons expression shows old new status
