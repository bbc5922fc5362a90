-- What a reader of whole rows has left.
use Rattle.std.specs.Prelude.{◌≡◌, ℕ, ◌≤◌, List, drop, length, min, Option, take}
use Rattle.std.specs.Io.KnownBytes.{prepend_known}
use Rattle.files_csv.specs.declared.whole.WholeRows.{WholeRows}

-- the bytes that a reader of whole rows has left: those that it read and didn't give, and then those of its input, if
-- they are known
abbrev pub unread : {R : Type 0} → (R → Option (List ℕ)) → WholeRows R → Option (List ℕ)
unread remaining rows =
    prepend_known (drop rows.given (take rows.filled rows.text.items)) (remaining rows.input)

-- its whole rows that it didn't give
abbrev pub rows_at_hand : {R : Type 0} → WholeRows R → List ℕ
rows_at_hand rows = drop rows.given (take (min rows.whole rows.filled) rows.text.items)

-- all bytes at hand are still to be given
pub record IsFresh {R : Type 0} (rows : WholeRows R) : Type 0 where
  pub given : rows.given ≡ 0
  pub inside : rows.filled ≤ length rows.text.items

-- what it read stays
pub record LeavesText {R : Type 0} (old new : WholeRows R) : Type 0 where
  pub text : new.text ≡ old.text
  pub filled : new.filled ≡ old.filled
  pub given : new.given ≡ old.given
  pub input : new.input ≡ old.input
  pub bytes : new.bytes ≡ old.bytes
  pub lines : new.lines ≡ old.lines

-- with room for more of it
pub record KeepsText {R : Type 0} (old new : WholeRows R) : Type 0 where
  pub text : take new.filled new.text.items ≡ take old.filled old.text.items
  pub same : new ≡ record old { text = new.text }
