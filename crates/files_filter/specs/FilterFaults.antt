-- Why a filter fails, and what it has written then.
use Rattle.std.specs.Prelude.{◌≡◌, ◌⊎◌, ◌++◌, ◌∷◌, ◌<◌, ◌^◌, ℕ, List, [], Option, length, map}
use Rattle.std.specs.Io.KnownBytes.{Appends, Keeps}
use Rattle.vob_filter.specs.declared.filter.Expression.{Expression}
use Rattle.files_condition.specs.declared.condition.Comparison.{Comparison}
use Rattle.files_condition.specs.declared.fault.ConditionFault.{ConditionFault}
use Rattle.files_condition.specs.declared.fault.ConditionFault.TheVariants as condition
use Rattle.files_condition.specs.Conditions.{IsCondition, test_of, tree_of}
use Rattle.files_condition.specs.Places.{IsConditionFault}
use Rattle.files_text.specs.declared.fault.Fault.TheVariants.{Memory}
use Rattle.files_filter.specs.Blocks.{AnswerAll}
use Rattle.files_filter.specs.Columns.{AreNames, AreTests, IsNoColumn}
use Rattle.files_filter.specs.Filtered.{heading}
use Rattle.files_filter.specs.RowFaults.{IsColumnFault, IsHeaderFault, IsOutputFault, IsRowFault}
use Rattle.files_filter.specs.FilterText.{Answered, rows_text, shown, true_rows, windowed}
use Rattle.files_filter.specs.Reading.{AreFirstRows, Cells, Delimited, delimited}
use Rattle.files_filter.specs.Layouts.{IsLayout, IsLayoutFault}
use Rattle.files_filter.specs.declared.layout.Format.{Format}
use Rattle.files_filter.specs.declared.layout.Layout.{Layout}
use Rattle.files_filter.specs.declared.comparing.Test.{Test}
use Rattle.files_filter.specs.declared.fault.FilterFault.{FilterFault}
use Rattle.files_filter.specs.declared.fault.FilterFault.TheVariants.{Condition, Text}
use Rattle.files_filter.specs.declared.filter.Shows.{Shows}

-- a comparison asks about a name that no column has, and those before it don't
pub record AsksInVain (header : Cells) (comparisons : List Comparison) (fault : FilterFault) : Type 0 where
  pub early : List Comparison
  pub comparison : Comparison
  pub late : List Comparison
  pub cut : comparisons ≡ early ++ comparison ∷ late
  pub tests : List Test
  pub tests_are : AreTests header early tests
  pub none : IsNoColumn header comparison.column.text.now
  pub fault_is : IsColumnFault fault comparison.column.at

-- so does one on the text of a table
pub record IsUnknown (text : Delimited) (comparisons : List Comparison) (fault : FilterFault) : Type 0 where
  pub header : Cells
  pub first : AreFirstRows text (header ∷ [])
  pub asks : AsksInVain header comparisons fault

-- the columns that are to be written aren't there, or have no name that JSON needs
pub record CantBeWritten (text : Delimited) (format : Format) (fault : FilterFault) : Type 0 where
  pub header : Cells
  pub first : AreFirstRows text (header ∷ [])
  pub layout : IsLayoutFault header format fault

-- rows of a text after some are read, and then there is a fault; in a window those are written of which a condition is
-- true by its tests. Their number fits a usize
pub record WritesWindow (text : Delimited) (before : List Cells) (tests : List Test) (expression : Expression)
    (layout : Layout) (skip : ℕ) (most : Option ℕ) (old new : Option (List ℕ)) (fault : FilterFault) : Type 0 where
  pub rows : List Answered
  pub fault_is : IsRowFault text (before ++ map (λ row. row.0) rows) tests fault
  pub answers : AnswerAll tests rows
  pub wrote : Appends old new (rows_text layout (windowed skip most (true_rows expression rows)))
  pub few : length (true_rows expression rows) < 2 ^ 64

-- so are those below its header
pub record WritesShown (text : Delimited) (header : Cells) (tests : List Test) (expression : Expression)
    (layout : Layout) (shows : Shows) (old new : Option (List ℕ)) (fault : FilterFault) : Type 0 where
  pub rows : List Answered
  pub fault_is : IsRowFault text (header ∷ map (λ row. row.0) rows) tests fault
  pub answers : AnswerAll tests rows
  pub wrote : Appends old new (heading layout shows header ++ rows_text layout (shown shows (true_rows expression rows)))

-- and so are those of a condition, by its comparisons
pub record WritesFirst (known : Option (List ℕ)) (format : Format) (comparisons : List Comparison)
    (expression : Expression) (shows : Shows) (old new : Option (List ℕ)) (fault : FilterFault) : Type 0 where
  pub header : Cells
  pub tests : List Test
  pub layout : Layout
  pub names : AreNames header
  pub tests_are : AreTests header comparisons tests
  pub layout_is : IsLayout header format layout
  pub written : WritesShown (delimited format.delimiter known) header tests expression layout shows old new fault

-- what was written before a fault: nothing, or the rows before it that are kept
abbrev pub FailsEarly : Delimited → Format → List Comparison → FilterFault → Type 0
FailsEarly text format comparisons fault =
    IsHeaderFault text fault ⊎ (IsUnknown text comparisons fault ⊎ CantBeWritten text format fault)

abbrev pub Fails : Option (List ℕ) → Format → List Comparison → Expression → Shows → (old new : Option (List ℕ)) →
    FilterFault → Type 0
Fails known format comparisons expression shows old new fault =
    (FailsEarly (delimited format.delimiter known) format comparisons fault × Keeps old new)
    ⊎ WritesFirst known format comparisons expression shows old new fault

-- a condition's fault, as a filter's
abbrev pub fault_of : ConditionFault → FilterFault
fault_of condition.Memory = Text Memory
fault_of (condition.Word column expected) = Condition column expected

-- the text of a condition is none: where, and what was expected there
abbrev pub IsUnread : List ℕ → FilterFault → Type 0
IsUnread whole (Condition column expected) = IsConditionFault whole (condition.Word column expected)
IsUnread whole fault = ⊥

-- a condition was read, and a fault came later
pub record FailsLater (known : Option (List ℕ)) (format : Format) (whole : List ℕ) (shows : Shows)
    (old new : Option (List ℕ)) (fault : FilterFault) : Type 0 where
  pub comparisons : List Comparison
  pub expression : Expression
  pub read : IsCondition whole (map test_of comparisons) (tree_of expression)
  pub fails : Fails known format comparisons expression shows old new fault

-- why a filter fails, by the text of its condition, and what it has written then
abbrev pub FailsBy : Option (List ℕ) → Format → List ℕ → Shows → (old new : Option (List ℕ)) → FilterFault → Type 0
FailsBy known format whole shows old new fault = IsOutputFault fault
    ⊎ ((IsUnread whole fault × Keeps old new) ⊎ FailsLater known format whole shows old new fault)
