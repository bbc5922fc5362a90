-- What is printed of a table: its header, and the rows of which a condition is true.
use Rattle.std.specs.Prelude.{◌≡◌, ℕ, ◌-◌, ◌*◌, Bool, false, List, [], map, filter, take, drop, Option, Some, None, String, string_bytes, unwrap_or}
use Rattle.std.specs.List.{flat_map}
use Rattle.csv.specs.Records.{fields_of}
use Rattle.std.specs.declared.alloc.Global.{Global}
use Rattle.std.specs.declared.vec.Vec.{Vec}
use Rattle.csv.specs.Writing.{fields_written, has_written, writer_setup}
use Rattle.csv.specs.declared.writer.Writer.{Writer}
use Rattle.vob_filter.specs.Filter.{truth}
use Rattle.vob_filter.specs.declared.filter.Expression.{Expression}
use Rattle.files_filter.specs.Layouts.{object_line, picked, record_line, writer_of}
use Rattle.files_filter.specs.Reading.{Cells}
use Rattle.files_filter.specs.declared.block.Row.{Row}
use Rattle.files_filter.specs.declared.filter.Shows.{Shows}
use Rattle.files_filter.specs.declared.layout.Layout.{Layout}
use Rattle.files_filter.specs.declared.filter.Shows.TheVariants.{Count, Nothing, Page, Rows}

-- the line of a row: an object of JSON if there are keys, else CSV
abbrev pub line_of : Option (Vec (String Global) Global) → Layout → Cells → List ℕ
line_of None layout cells = record_line layout cells
line_of (Some keys) layout cells = object_line (map (λ key. string_bytes key) keys.items) (picked layout.places cells)

abbrev pub row_line : Layout → Cells → List ℕ
row_line layout cells = line_of layout.keys layout cells

-- rows, one after another
abbrev pub rows_text : Layout → List Cells → List ℕ
rows_text layout rows = flat_map (row_line layout) rows

-- what stands above them: the header in CSV, and nothing in JSON
abbrev pub top_of : Option (Vec (String Global) Global) → Layout → Cells → List ℕ
top_of None layout header = record_line layout header
top_of (Some keys) layout header = []

abbrev pub top_line : Layout → Cells → List ℕ
top_line layout header = top_of layout.keys layout header

-- a writer between two rows
pub record IsReady {W : Type 0} (delimiter : ℕ) (writer : Writer W) : Type 0 where
  pub setup : writer_setup writer ≡ writer_of delimiter
  pub fields : fields_written writer ≡ 0
  pub wrote : has_written writer ≡ false

-- a row, and what each comparison of a condition is in it
abbrev pub Answered : Type 0
Answered = Cells × List (Option Bool)

abbrev pub answered : Row → Answered
answered row = (fields_of row.cells, row.answers.items)

-- whether a condition is true of a row: neither false nor missing
abbrev pub is_true : Expression → Answered → Bool
is_true expression row = unwrap_or (truth expression row.1) false

-- the rows of which a condition is true, in their order
abbrev pub true_rows : Expression → List Answered → List Cells
true_rows expression rows = map (λ row. row.0) (filter (is_true expression) rows)

-- the rows after the first ones, and of these at most a number, or all
abbrev pub windowed : ℕ → Option ℕ → List Cells → List Cells
windowed skip None rows = drop skip rows
windowed skip (Some most) rows = take most (drop skip rows)

-- what is shown of rows: all, a page of some number of them, counted from 1, or none
abbrev pub shown : Shows → List Cells → List Cells
shown Rows rows = rows
shown (Page number most) rows = take most (drop ((number - 1) * most) rows)
shown Count rows = []
shown Nothing rows = []
