-- Which columns of a table are written, and the lines of its rows.
use Rattle.std.specs.Prelude.{◌≡◌, ◌≢◌, ◌==◌, ◌⊎◌, ◌-◌, ◌≤◌, ◌++◌, ◌∷◌, [], ℕ, Bool, true, false, List, Option, None, Some, String, IfSome, MatchOption, codes, length, map, slice_index_or, string_bytes, ⊤}
use Rattle.std.specs.List.{AllZip, Any, flat_map, range_with_len}
use Rattle.std.specs.declared.alloc.Global.{Global}
use Rattle.std.specs.declared.vec.Vec.{Vec}
use Rattle.csv.specs.Writing.{default_writer, row_text}
use Rattle.csv.specs.declared.writer.WriterBuilder.{WriterBuilder}
use Rattle.files_forms.specs.Forms.{comma, json_name}
use Rattle.files_text.specs.Printed.{line_end}
use Rattle.files_filter.specs.Answers.{cell_at}
use Rattle.files_filter.specs.Columns.{IsColumn, IsNoColumn}
use Rattle.files_filter.specs.Reading.{Cells}
use Rattle.files_filter.specs.Refusals.{IsShown}
use Rattle.files_filter.specs.declared.fault.FilterFault.{FilterFault}
use Rattle.files_filter.specs.declared.fault.FilterFault.TheVariants.{Nameless, Selected}
use Rattle.files_filter.specs.declared.layout.Format.{Format}
use Rattle.files_filter.specs.declared.layout.Layout.{Layout}

-- the cells of a row at some places, or all
abbrev pub picked : Option (Vec ℕ Global) → Cells → Cells
picked None cells = cells
picked (Some places) cells = map (cell_at cells) places.items

-- a row as CSV: cells with a delimiter between, those that need it in quotes
abbrev pub writer_of : (delimiter : ℕ) → WriterBuilder
writer_of delimiter = record default_writer { delimiter = delimiter }

abbrev pub record_line : Layout → Cells → List ℕ
record_line layout cells = row_text (writer_of layout.delimiter) (picked layout.places cells)

-- a cell in JSON: null if it is empty
abbrev pub json_cell : List ℕ → List ℕ
json_cell [] = codes "null"
json_cell (byte ∷ bytes) = json_name (byte ∷ bytes)

-- a row as an object of JSON: a key and a cell, and then the next ones
abbrev pub member_text : (keys : List (List ℕ)) → Cells → (number : ℕ) → List ℕ
member_text keys cells number =
    comma (number == 0) ++ slice_index_or keys number [] ++ codes ":" ++ json_cell (cell_at cells number)

abbrev pub object_line : (keys : List (List ℕ)) → Cells → List ℕ
object_line keys cells =
    codes "{" ++ flat_map (member_text keys cells) (range_with_len 0 (length keys)) ++ (codes "}" ++ line_end)

-- a name that no column has is selected
abbrev pub IsSelectedName : (name : List ℕ) → FilterFault → Type 0
IsSelectedName name (Selected shown names) = IsShown name (string_bytes shown)
IsSelectedName name fault = ⊥

abbrev pub IsSelectedFault : Cells → (name : List ℕ) → FilterFault → Type 0
IsSelectedFault header name fault = IsNoColumn header name × IsSelectedName name fault

-- a column that is written has no name
abbrev pub IsNameless : Cells → FilterFault → Type 0
IsNameless header (Nameless column) = (column ≢ 0) × (column ≤ length header) × (cell_at header (column - 1) ≡ [])
IsNameless header fault = ⊥

-- the columns of a format are at these places, or all are written
abbrev pub ArePlaces : Cells → Format → Option (Vec ℕ Global) → Type 0
ArePlaces header format places = MatchOption format.columns (places ≡ None) (λ names. IfSome places (λ own.
    AllZip (λ name place. IsColumn header name.now place) names.now own.items) × (places ≢ None))

-- the keys of a row in JSON are the names of its columns; in CSV there are none
abbrev pub AreKeys : Cells → (is_json : Bool) → Option (Vec (String Global) Global) → Type 0
AreKeys header false None = ⊤
AreKeys header true (Some keys) = map (λ key. string_bytes key) keys.items ≡ map json_name header
AreKeys header is_json keys = ⊥

-- how the rows below a header are written in a format
pub record IsLayout (header : Cells) (format : Format) (layout : Layout) : Type 0 where
  pub delimiter : layout.delimiter ≡ format.delimiter
  pub places : ArePlaces header format layout.places
  pub keys : AreKeys (picked layout.places header) format.is_json layout.keys

-- a name that is selected is none of a column
abbrev pub IsMissed : Cells → Format → FilterFault → Type 0
IsMissed header format fault =
    IfSome format.columns (λ names. Any (λ name. IsSelectedFault header name.now fault) names.now)
    × (format.columns ≢ None)

-- or JSON is asked for, and a column that is written has no name
pub record NeedsName (header : Cells) (format : Format) (fault : FilterFault) : Type 0 where
  pub json : format.is_json ≡ true
  pub places : Option (Vec ℕ Global)
  pub places_are : ArePlaces header format places
  pub nameless : IsNameless (picked places header) fault

abbrev pub IsLayoutFault : Cells → Format → FilterFault → Type 0
IsLayoutFault header format fault = IsMissed header format fault ⊎ NeedsName header format fault
