-- One more row is read of a table.
use Rattle.std.specs.Prelude.{IfSome}
use Rattle.std.proofs.Common.{◌≡◌, ◌≢◌, ◌∙◌, ℕ, Bool, true, false, List, [], ◌∷◌, ◌++◌, Option, Some, None, ap, inl, length, option_map, refl, subst, sym}
use Rattle.std.proofs.lemmas.Option.{none-some, same_Some}
use Rattle.std.specs.Io.KnownBytes.{Keeps}
use Rattle.csv.specs.Machine.{Read, next_record}
use Rattle.csv.specs.Reading.{ExplainsRead, NextIs, Reached, ReadRecord, Ready, expected_len, is_flexible, reader_config, reader_state, reader_trim, source_of, strip_bom, took_first}
use Rattle.csv.specs.Reading as csv
use Rattle.csv.specs.declared.error.ErrorKind.{ErrorKind}
use Rattle.csv.specs.declared.error.ErrorKind.TheVariants as error
use Rattle.csv.specs.declared.parser.Config.{Config}
use Rattle.csv.specs.declared.parser.State.{State}
use Rattle.csv.specs.declared.parser.State.TheVariants as st
use Rattle.csv.specs.declared.reader.Reader.{Reader}
use Rattle.csv.specs.declared.reader.Trim.TheVariants as trim
use Rattle.csv.proofs.ReadFacts.{rows-end, rows-more}
use Rattle.files_filter.specs.Reading.{AreFirstRows, BeginWith, Cells, ComeFirst, Consist, Delimited, HasRead, IsEven, ReadsNext, config_of}
use Rattle.files_filter.specs.RowFaults.{IsHeaderFault, IsLost, IsTextFault, IsTwiceIn, header_of}
use Rattle.files_filter.specs.Refusals.{IsMemory}
use Rattle.files_filter.specs.declared.fault.FilterFault.{FilterFault}
use Rattle.files_filter.specs.declared.fault.FilterFault.TheVariants.{Cell, Column, Columns, Condition, Nameless, Row, Selected, Text, Twice}
use Rattle.files_filter.specs.Exchanged.{left_between}
use Rattle.files_filter.specs.declared.exchanged.Exchanged.{Exchanged}
use Rattle.files_csv.specs.declared.whole.WholeRows.{WholeRows}
use Rattle.files_filter.specs.declared.table.Table.{Table}

module _ {R : Type 0} (remaining : R → Option (List ℕ)) (old new : Reader R) (rows : List Cells) (cells : Cells)
    (config : Config) (same_config : reader_config old ≡ config) where
  one_more : (text left : Option (List ℕ)) → source_of remaining old ≡ left →
      ComeFirst config text rows (reader_state old) left → ReadRecord remaining old new true cells →
      ComeFirst config text (rows ++ cells ∷ []) (reader_state new) (source_of remaining new)
  one_more None left same before read = tt
  one_more (Some text) None same before read = absurd before
  one_more (Some text) (Some left) same before read =
      let next = rows-more remaining old new cells config st.StartRecord (strip_bom text) left rows same_config same before read in
      rw next.1 next.2

  at_end : (text left : Option (List ℕ)) → source_of remaining old ≡ left →
      ComeFirst config text rows (reader_state old) left → ReadRecord remaining old new false cells →
      Consist config text rows
  at_end None left same before read = tt
  at_end (Some text) None same before read = absurd before
  at_end (Some text) (Some left) same before read =
      (reader_state old, left, before, rows-end {R = R} remaining old new cells config left same_config same read)

-- a row more is as long as the header
even_more : (rows : List Cells) (old new : Option ℕ) (cells : Cells) → IsEven rows old →
    IfSome old (λ n. new ≡ Some n) → new ≡ Some (length cells) → IsEven (rows ++ cells ∷ []) new
even_more [] old new cells even same is = is
even_more (header ∷ rows) old new cells even same is = subst (λ known. IfSome known (λ n. new ≡ Some n)) even same

pub reads_next : {R : Type 0} (remaining : R → Option (List ℕ)) (text : Delimited) (rows : List Cells)
    (old new : Table R) (found : Bool) (cells : Cells) → HasRead remaining text rows old →
    ReadRecord (left_between remaining) old.reader new.reader found cells → took_first new.reader ≡ true →
    is_flexible new.reader ≡ is_flexible old.reader → ReadsNext remaining text rows new found cells
reads_next remaining text rows old new true cells has read first strict = record {
  trim = read.3 ∙ has.trim;
  ready = inl first;
  config = read.2 ∙ has.config;
  strict = strict ∙ has.strict;
  even = let lengths = read.5 refl has.strict in
      even_more rows (expected_len old.reader) (expected_len new.reader) cells has.even lengths.0 lengths.1;
  before = one_more (left_between remaining) old.reader new.reader rows cells (config_of text.delimiter) has.config text.text _
      refl has.before read;
}
reads_next remaining text rows old new false cells has read first strict =
    at_end (left_between remaining) old.reader new.reader rows cells (config_of text.delimiter) has.config text.text _ refl
    has.before read

-- nothing was read of a text yet
pub begins : {R : Type 0} (remaining : R → Option (List ℕ)) (text : Delimited) (whole : Option (List ℕ)) (table : Table R) →
    Keeps text.text whole → reader_trim table.reader ≡ trim.None → Ready table.reader →
    reader_config table.reader ≡ config_of text.delimiter → is_flexible table.reader ≡ false →
    expected_len table.reader ≡ None → reader_state table.reader ≡ st.StartRecord →
    source_of (left_between remaining) table.reader ≡ option_map strip_bom whole →
    HasRead remaining text [] table
unfolding Reached
begins remaining text whole table keeps none ready config strict even state source = record {
  trim = none;
  ready = ready;
  config = config;
  strict = strict;
  even = even;
  before = rw (state, source) (first text.text whole keeps);
}
  where
    first : (known whole : Option (List ℕ)) → Keeps known whole →
        ComeFirst (config_of text.delimiter) known [] st.StartRecord (option_map strip_bom whole)
    first None whole keeps = tt
    first (Some known) None keeps = keeps
    first (Some known) (Some whole) keeps = (refl, ap strip_bom (sym keeps))

-- its header is kept beside
pub same_reader : {R : Type 0} (remaining : R → Option (List ℕ)) (text : Delimited) (rows : List Cells)
    (old new : Table R) → new.reader ≡ old.reader → HasRead remaining text rows old →
    HasRead remaining text rows new
same_reader remaining text rows old new same has = record {
  trim = rw same has.trim;
  ready = rw same has.ready;
  config = rw same has.config;
  strict = rw same has.strict;
  even = rw same has.even;
  before = rw same has.before;
}

-- what was read are the first rows
firsts : (config : Config) (text left : Option (List ℕ)) (rows : List Cells) (state : State) →
    ComeFirst config text rows state left → BeginWith config text rows
firsts config None left rows state before = tt
firsts config (Some text) None rows state before = absurd before
firsts config (Some text) (Some left) rows state before = (state, left, before)

pub first_rows : {R : Type 0} (remaining : R → Option (List ℕ)) (text : Delimited) (rows : List Cells)
    (table : Table R) → HasRead remaining text rows table → AreFirstRows text rows
first_rows remaining text rows table has =
    firsts (config_of text.delimiter) text.text (source_of (left_between remaining) table.reader) rows
    (reader_state table.reader) has.before

next_is : (read : Option Read) (cells : Cells) (state : State) (left : List ℕ) → NextIs read true cells state left →
    (p : Read) × (read ≡ Some p) × (cells ≡ p.0)
next_is None cells state left is = cc is
next_is (Some p) cells state left is = (p, refl, is.1)

reached_more : (config : Config) (first last : State) (text left : List ℕ) (rows : List Cells) (cells : Cells) (p : Read) →
    Reached config first text rows last left → next_record config last [] [] left ≡ Some p →
    cells ≡ p.0 → Reached config first text (rows ++ cells ∷ []) p.1 p.2
unfolding Reached
reached_more config first last text left [] cells p reached read is = (p, rw (reached.0, reached.1) read, is, (refl, refl))
reached_more config first last text left (row ∷ rows) cells p reached read is =
    (reached.0, reached.1, reached.2, reached_more config reached.0.1 last reached.0.2 left rows cells p reached.3 read is)

-- a row that was taken and not given is the next one
took_row : (config : Config) (text left after : Option (List ℕ)) (rows : List Cells) (cells : Cells) (old new : State) →
    ComeFirst config text rows old left → csv.ReadsNext config old left after true cells new →
    BeginWith config text (rows ++ cells ∷ [])
took_row config None left after rows cells old new before took = tt
took_row config (Some text) None after rows cells old new before took = absurd before
took_row config (Some text) (Some left) None rows cells old new before took = absurd took
took_row config (Some text) (Some left) (Some rest) rows cells old new before took =
    let next = next_is (next_record config old [] [] left) cells new rest took in
    (next.0.1, next.0.2, reached_more config st.StartRecord old (strip_bom text) left rows cells next.0 before next.1 next.2)

-- a row is to be as long as the header
told : (rows : List Cells) (known : Option ℕ) (expected : ℕ) → IsEven rows known → known ≡ Some expected →
    expected ≡ length (header_of rows)
told [] known expected even is = absurd (none-some expected (sym even ∙ is))
told (header ∷ rows) known expected even is = sym (same_Some (length header) expected (sym even ∙ is))

has_header : (rows : List Cells) (known : Option ℕ) (expected : ℕ) → IsEven rows known → known ≡ Some expected →
    rows ≢ []
has_header [] known expected even is same = none-some expected (sym even ∙ is)
has_header (header ∷ rows) known expected even is same = cc same

pub lost_row : {R : Type 0} (remaining : R → Option (List ℕ)) (text : Delimited) (rows : List Cells)
    (old : Table R) (new : Reader (Exchanged (WholeRows (Exchanged R)))) (kind : ErrorKind) (fault : FilterFault) → HasRead remaining text rows old →
    ExplainsRead (left_between remaining) old.reader new false kind → IsLost kind fault → IsTextFault text rows fault
lost_row remaining text rows old new kind (Text fault) has why lost = first_rows remaining text rows old has
lost_row remaining text rows old new (error.UnequalLengths place expected len) (Row line cells header) has why lost =
    record {
      row = why.3;
      some = has_header rows (expected_len old.reader) expected has.even why.1;
      first = took_row (config_of text.delimiter) text.text (source_of (left_between remaining) old.reader) _ rows why.3
          (reader_state old.reader) _ has.before (rw has.config at why.4);
      cells_are = lost.0 ∙ sym why.5;
      header_is = lost.1 ∙ told rows (expected_len old.reader) expected has.even why.1;
      differ = λ same. why.2 (sym lost.1 ∙ same ∙ lost.0);
    }
lost_row remaining text rows old new (error.Io e) (Row line cells header) has why lost = absurd lost
lost_row remaining text rows old new (error.Utf8 place e) (Row line cells header) has why lost = absurd lost
lost_row remaining text rows old new error.OutOfMemory (Row line cells header) has why lost = absurd lost
lost_row remaining text rows old new (error.Serialize e) (Row line cells header) has why lost = absurd lost
lost_row remaining text rows old new (error.Deserialize place e) (Row line cells header) has why lost = absurd lost
lost_row remaining text rows old new kind (Condition column expected) has why lost = absurd lost
lost_row remaining text rows old new kind (Column column name names) has why lost = absurd lost
lost_row remaining text rows old new kind (Twice line column name) has why lost = absurd lost
lost_row remaining text rows old new kind (Selected name names) has why lost = absurd lost
lost_row remaining text rows old new kind (Nameless column) has why lost = absurd lost
lost_row remaining text rows old new kind (Cell cell) has why lost = absurd lost
lost_row remaining text rows old new kind Columns has why lost = absurd lost

-- before the header no row is uneven
pub header_fault : (text : Delimited) (fault : FilterFault) → IsTextFault text [] fault →
    IsHeaderFault text fault
header_fault text (Text fault) is = tt
header_fault text (Row line cells header) is = absurd (is.some refl)
header_fault text (Condition column expected) is = is
header_fault text (Column column name names) is = is
header_fault text (Twice line column name) is = absurd is
header_fault text (Selected name names) is = is
header_fault text (Nameless column) is = is
header_fault text (Cell cell) is = is
header_fault text Columns is = is

pub twice_fault : (text : Delimited) (header : Cells) (fault : FilterFault) → AreFirstRows text (header ∷ []) →
    IsTwiceIn header fault → IsHeaderFault text fault
twice_fault text header (Text fault) first is = tt
twice_fault text header (Row line cells expected) first is = is
twice_fault text header (Condition column expected) first is = is
twice_fault text header (Column column name names) first is = is
twice_fault text header (Twice line column name) first is = (header, first, is)
twice_fault text header (Selected name names) first is = is
twice_fault text header (Nameless column) first is = is
twice_fault text header (Cell cell) first is = is
twice_fault text header Columns first is = is

pub memory_fault : (text : Delimited) (fault : FilterFault) → IsMemory fault → IsHeaderFault text fault
memory_fault text fault is = rw is tt
