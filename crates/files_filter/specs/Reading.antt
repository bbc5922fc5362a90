-- What was read of a table.
use Rattle.std.specs.Prelude.{◌≡◌, ℕ, Bool, true, false, List, [], ◌∷◌, ◌++◌, Option, Some, None, length, ⊤}
use Rattle.csv.specs.Reading.{AreRecords, Reached, Ready, default_config, expected_len, is_flexible, reader_config, reader_state, reader_trim, source_of, strip_bom}
use Rattle.csv.specs.declared.parser.Config.{Config}
use Rattle.csv.specs.declared.parser.State.{State}
use Rattle.csv.specs.declared.parser.State.TheVariants as st
use Rattle.csv.specs.declared.reader.Trim.TheVariants as trim
use Rattle.files_filter.specs.Exchanged.{left_between}
use Rattle.files_filter.specs.declared.table.Table.{Table}

-- a row: its cells
abbrev pub Cells : Type 0
Cells = List (List ℕ)

-- a text, if it is known, and the byte between two of its cells
pub record Delimited : Type 0 where
  pub text : Option (List ℕ)
  pub delimiter : ℕ

abbrev pub delimited : (delimiter : ℕ) → (text : Option (List ℕ)) → Delimited
delimited delimiter text = record { text = text; delimiter = delimiter }

-- how it is read: as RFC 4180 has it, but for that byte
abbrev pub config_of : (delimiter : ℕ) → Config
config_of delimiter = record default_config { delimiter = delimiter }

-- these rows come before what is left
abbrev pub ComeFirst : Config → (text : Option (List ℕ)) → List Cells → State → (left : Option (List ℕ)) → Type 0
ComeFirst config None rows state left = ⊤
ComeFirst config (Some text) rows state None = ⊥
ComeFirst config (Some text) rows state (Some left) =
    Reached config st.StartRecord (strip_bom text) rows state left

abbrev pub ComeBefore : Delimited → List Cells → State → (left : Option (List ℕ)) → Type 0
ComeBefore text rows state left = ComeFirst (config_of text.delimiter) text.text rows state left

-- these are the first rows
abbrev pub BeginWith : Config → (text : Option (List ℕ)) → List Cells → Type 0
BeginWith config None rows = ⊤
BeginWith config (Some text) rows =
    (state : State) × (left : List ℕ) × Reached config st.StartRecord (strip_bom text) rows state left

abbrev pub AreFirstRows : Delimited → List Cells → Type 0
AreFirstRows text rows = BeginWith (config_of text.delimiter) text.text rows

-- these are all rows
abbrev pub Consist : Config → (text : Option (List ℕ)) → List Cells → Type 0
Consist config None rows = ⊤
Consist config (Some text) rows = AreRecords config st.StartRecord (strip_bom text) rows

abbrev pub AreAllRows : Delimited → List Cells → Type 0
AreAllRows text rows = Consist (config_of text.delimiter) text.text rows

-- the next row must have as many cells as the header
abbrev pub IsEven : List Cells → (expected : Option ℕ) → Type 0
IsEven [] expected = expected ≡ None
IsEven (header ∷ rows) expected = expected ≡ Some (length header)

-- a table of which these rows were read, its header among them
pub record HasRead {R : Type 0} (remaining : R → Option (List ℕ)) (text : Delimited) (rows : List Cells)
    (table : Table R) : Type 0 where
  pub trim : reader_trim table.reader ≡ trim.None
  pub ready : Ready table.reader
  pub config : reader_config table.reader ≡ config_of text.delimiter
  pub strict : is_flexible table.reader ≡ false
  pub even : IsEven rows (expected_len table.reader)
  pub before : ComeBefore text rows (reader_state table.reader) (source_of (left_between remaining) table.reader)

-- a table after one more row, or after all
abbrev pub ReadsNext : {R : Type 0} → (R → Option (List ℕ)) → Delimited → List Cells → Table R → Bool → Cells →
    Type 0
ReadsNext remaining text rows table true cells = HasRead remaining text (rows ++ cells ∷ []) table
ReadsNext remaining text rows table false cells = AreAllRows text rows
