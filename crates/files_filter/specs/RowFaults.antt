-- What faults are about.
use Rattle.std.specs.Prelude.{◌≡◌, ◌≢◌, ◌≤◌, ◌<◌, ◌⊎◌, ◌++◌, ◌∷◌, [], ℕ, List, drop, length, slice_index_or, string_bytes, ⊤}
use Rattle.csv.specs.declared.error.ErrorKind.{ErrorKind}
use Rattle.csv.specs.declared.error.ErrorKind.TheVariants.{UnequalLengths}
use Rattle.files_text.specs.declared.fault.Fault.TheVariants.{Memory, Output}
use Rattle.files_filter.specs.Reading.{AreFirstRows, Cells, Delimited}
use Rattle.files_filter.specs.Answers.{cell_at}
use Rattle.files_filter.specs.Columns.{IsRepeated}
use Rattle.files_filter.specs.Refusals.{IsShown, RefusesBy}
use Rattle.files_filter.specs.declared.comparing.Test.{Test}
use Rattle.files_filter.specs.declared.fault.FilterFault.{FilterFault}
use Rattle.files_filter.specs.declared.fault.FilterFault.TheVariants.{Column, Columns, Row, Text, Twice}

-- there was no memory, or the output failed: contracts don't say what is written then
abbrev pub IsOutputFault : FilterFault → Type 0
IsOutputFault (Text Memory) = ⊤
IsOutputFault (Text (Output error)) = ⊤
IsOutputFault Columns = ⊤
IsOutputFault fault = ⊥

-- the header of a table, by its rows, and the rows below
abbrev pub header_of : List Cells → Cells
header_of rows = slice_index_or rows 0 []

abbrev pub below_header : List Cells → List Cells
below_header rows = drop 1 rows

-- the row after the header and some more of a text has another number of cells than the header, and both are told
pub record IsUneven (text : Delimited) (rows : List Cells) (cells header : ℕ) : Type 0 where
  pub row : Cells
  pub some : rows ≢ []
  pub first : AreFirstRows text (rows ++ row ∷ [])
  pub cells_are : cells ≡ length row
  pub header_is : header ≡ length (header_of rows)
  pub differ : header ≢ cells

-- what comes after the first rows of a text can't be read, or is an uneven row
abbrev pub IsTextFault : Delimited → List Cells → FilterFault → Type 0
IsTextFault text rows (Text fault) = AreFirstRows text rows
IsTextFault text rows (Row line cells header) = IsUneven text rows cells header
IsTextFault text rows fault = ⊥

-- tests refuse the first rows of a text, its header among them, with one more at most
pub record AreRefused (text : Delimited) (rows : List Cells) (tests : List Test) (fault : FilterFault) : Type 0 where
  pub late : List Cells
  pub few : length late ≤ 1
  pub first : AreFirstRows text (rows ++ late)
  pub refuses : RefusesBy text (header_of rows) (below_header rows ++ late) tests fault

-- the one or the other
abbrev pub IsRowFault : Delimited → List Cells → List Test → FilterFault → Type 0
IsRowFault text rows tests fault = IsTextFault text rows fault ⊎ AreRefused text rows tests fault

-- the fault of a row that the reader of records couldn't give
abbrev pub IsLost : ErrorKind → FilterFault → Type 0
IsLost kind (Text fault) = ⊤
IsLost (UnequalLengths place expected len) (Row line cells header) = (cells ≡ len) × (header ≡ expected)
IsLost kind fault = ⊥

-- a name of a header is that of a column before, and those before it aren't
pub record IsTwice (header : Cells) (name : List ℕ) : Type 0 where
  pub place : ℕ
  pub repeated : IsRepeated header place
  pub first : (before : ℕ) → before < place → ¬ IsRepeated header before
  pub shown : IsShown (cell_at header place) name

-- a fault is about a column that has the name of one before
abbrev pub IsRepeatedAt : (header : Cells) (place : ℕ) → FilterFault → Type 0
IsRepeatedAt header place (Twice line column name) =
    IsRepeated header place × IsShown (cell_at header place) (string_bytes name)
IsRepeatedAt header place fault = ⊥

abbrev pub IsTwiceIn : (header : Cells) → FilterFault → Type 0
IsTwiceIn header (Twice line column name) = IsTwice header (string_bytes name)
IsTwiceIn header fault = ⊥

-- the header of a text can't be read, or two columns have one name
abbrev pub IsHeaderFault : Delimited → FilterFault → Type 0
IsHeaderFault text (Text fault) = ⊤
IsHeaderFault text (Twice line column name) =
    (header : Cells) × AreFirstRows text (header ∷ []) × IsTwice header (string_bytes name)
IsHeaderFault text fault = ⊥

-- a name at a column of a condition is none of a column
abbrev pub IsColumnFault : FilterFault → ℕ → Type 0
IsColumnFault (Column column name names) at = column ≡ at
IsColumnFault fault at = ⊥
