-- How far a reader of whole rows has read a text.
use Rattle.std.specs.Prelude.{◌≡◌, ◌⊎◌, ◌==◌, ◌+◌, ◌≤◌, ◌++◌, [], ℕ, List, Option, None, Some, count_by, length, min, take}
use Rattle.std.below.core.specs.declared.int.usize.TheConstants.{MAX}
use Rattle.files_csv.specs.Parts.{AreRows, MayEnd, Stands}
use Rattle.files_csv.specs.Refused.{IsRefused, column_after, line_after}
use Rattle.files_csv.specs.Rows.{IsCsv}
use Rattle.files_csv.specs.declared.whole.Refused.{Refused}
use Rattle.files_csv.specs.declared.whole.WholeRows.{WholeRows}

-- a row begins after these bytes
abbrev pub BeginsRow : List ℕ → Type 0
BeginsRow seen = (seen ≡ []) ⊎ AreRows seen

-- these rows are forgotten, and counted
pub record AreGone {R : Type 0} (rows : WholeRows R) (gone : List ℕ) : Type 0 where
  pub begins : BeginsRow gone
  pub bytes : rows.bytes ≡ min (length gone) MAX
  pub lines : rows.lines ≡ min (count_by (λ byte. byte == 10) gone) MAX

-- these bytes of a text are forgotten, and these are left in the input
pub record IsRead {R : Type 0} (remaining : R → Option (List ℕ)) (text : List ℕ) (rows : WholeRows R)
    (gone left : List ℕ) : Type 0 where
  pub input : remaining rows.input ≡ Some left
  pub text_is : text ≡ (gone ++ take rows.filled rows.text.items) ++ left
  pub inside : rows.filled ≤ length rows.text.items
  pub gone_are : AreGone rows gone
  pub none : rows.refused ≡ None

-- so many of the bytes at hand are scanned, and no byte is refused
pub record HasScanned {R : Type 0} (remaining : R → Option (List ℕ)) (text : List ℕ) (rows : WholeRows R)
    (count : ℕ) : Type 0 where
  pub gone : List ℕ
  pub left : List ℕ
  pub read : IsRead remaining text rows gone left
  pub scanned : count ≤ rows.filled
  pub whole : rows.whole ≤ count
  pub given : rows.given ≤ rows.whole
  pub cell : rows.whole ≤ rows.cell
  pub begins : BeginsRow (gone ++ take rows.whole rows.text.items)
  pub stands : Stands rows.part (gone ++ take count rows.text.items) (length gone + rows.cell)

-- the text has ended, and is one of CSV
pub record HasEnded {R : Type 0} (remaining : R → Option (List ℕ)) (text : List ℕ) (rows : WholeRows R)
    (count : ℕ) : Type 0 where
  pub input : remaining rows.input ≡ Some []
  pub inside : rows.filled ≤ length rows.text.items
  pub scanned : count ≡ rows.filled
  pub whole : rows.whole ≡ rows.filled
  pub given : rows.given ≤ rows.whole
  pub none : rows.refused ≡ None
  pub part : MayEnd rows.part
  pub is_csv : IsCsv text

-- what comes after some bytes is refused
pub record RefusesAfter {R : Type 0} (rows : WholeRows R) (body expected : List ℕ) : Type 0 where
  pub fault : Refused
  pub found : rows.refused ≡ Some fault
  pub line_is : fault.line ≡ line_after body
  pub column_is : fault.column ≡ column_after body
  pub expected_is : fault.expected.now ≡ expected

-- its first byte that is refused is found
pub record HasRefused {R : Type 0} (text : List ℕ) (rows : WholeRows R) : Type 0 where
  pub fault : Refused
  pub found : rows.refused ≡ Some fault
  pub is : IsRefused text fault.line fault.column fault.expected.now

-- so far a reader has read a text, of whose bytes at hand so many are scanned
abbrev pub HasReadTo : {R : Type 0} → (R → Option (List ℕ)) → List ℕ → WholeRows R → ℕ → Type 0
HasReadTo remaining text rows count =
    HasScanned remaining text rows count ⊎ (HasEnded remaining text rows count ⊎ HasRefused text rows)

-- so far a reader has read a text
abbrev pub HasRead : {R : Type 0} → (R → Option (List ℕ)) → List ℕ → WholeRows R → Type 0
HasRead remaining text rows = HasReadTo remaining text rows rows.filled
