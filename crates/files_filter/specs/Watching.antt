-- What a guard has seen of the rows of a table.
use Rattle.std.specs.Prelude.{◌≡◌, true, false, IfSome, List}
use Rattle.std.specs.List.{Any}
use Rattle.files_condition.specs.declared.condition.Operand.{Operand}
use Rattle.files_condition.specs.declared.condition.Relation.{Relation}
use Rattle.files_filter.specs.Reading.{Cells}
use Rattle.files_filter.specs.Refusals.{HasNoText, HasNumber, IsOrdering, IsTextCell}
use Rattle.files_filter.specs.declared.comparing.Kind.TheVariants.{Compared}
use Rattle.files_filter.specs.declared.comparing.Other.TheVariants as other
use Rattle.files_filter.specs.declared.comparing.Test.{Test}
use Rattle.files_filter.specs.declared.guard.ColumnsGuard.{ColumnsGuard}
use Rattle.files_filter.specs.declared.guard.Guard.{Guard}
use Rattle.files_filter.specs.declared.guard.Guard.TheVariants.{Columns, Text}
use Rattle.files_filter.specs.declared.guard.TextGuard.{TextGuard}

-- of a comparison with a text without quotes
pub record WatchesText (rows : List Cells) (test : Test) (guard : TextGuard) : Type 0 where
  pub relation : Relation
  pub operand : Operand
  pub kind : test.kind ≡ Compared relation (other.Text operand)
  pub plain : operand.is_quoted ≡ false
  pub place : guard.place ≡ test.place
  pub at : guard.at ≡ operand.at
  pub is_order : guard.is_order ≡ true → IsOrdering relation
  pub numbers : guard.have_numbers ≡ true → HasNumber rows test.place
  pub texts : guard.have_texts ≡ false → HasNoText rows test.place

-- of a comparison of two columns that asks which is less
pub record WatchesColumns (header : Cells) (rows : List Cells) (test : Test) (guard : ColumnsGuard) : Type 0 where
  pub relation : Relation
  pub kind : test.kind ≡ Compared relation (other.Column guard.other)
  pub is_order : IsOrdering relation
  pub place : guard.place ≡ test.place
  pub numbers : guard.have_numbers ≡ true → HasNumber rows test.place
  pub texts : IfSome guard.text (λ wrong. Any (IsTextCell header test.place wrong) rows)

-- of the test that it guards
abbrev pub Watches : (header : Cells) (rows : List Cells) → Test → Guard → Type 0
Watches header rows test (Text guard) = WatchesText rows test guard
Watches header rows test (Columns guard) = WatchesColumns header rows test guard

-- of one of some tests
abbrev pub IsWatched : (header : Cells) (rows : List Cells) → List Test → Guard → Type 0
IsWatched header rows tests guard = Any (λ test. Watches header rows test guard) tests
