-- Conflicts as they are found and printed. No public clause cites this page.
use Rattle.std.specs.Prelude.{◌≡◌, ◌⊎◌, ℕ, ◌<◌, List, min, Contains, IfSome}
use Rattle.std.below.core.specs.declared.int.usize.TheConstants.{MAX}
use Rattle.vob_lr.specs.Tables.{TableView}
use Rattle.vob_lr.specs.Those.{AreInOrder}
use Rattle.files_grammar.specs.ConflictText.{rule_count, shift_count}
use Rattle.files_grammar.specs.Conflicts.{AreConflicts, Choice, ComesBefore, IsConflict}
use Rattle.files_grammar.specs.declared.conflicts.Conflicts.{Conflicts}
use Rattle.files_grammar.specs.declared.file.GrammarFile.{GrammarFile}

-- a choice is before a state and a terminal
abbrev pub IsBefore : Choice → (q t : ℕ) → Type 0
IsBefore choice q t = (choice.state < q) ⊎ ((choice.state ≡ q) × (choice.terminal < t))

-- all conflicts before a state and a terminal
abbrev pub AreFoundBefore : GrammarFile → TableView → (q t : ℕ) → List Choice → Type 0
AreFoundBefore file table q t choices =
    AreInOrder ComesBefore (λ choice. IsBefore choice q t × IsConflict file table choice) choices

-- a parser enters the state of a choice and that of its shift
abbrev pub ArePrintable : (entered : List ℕ) → Choice → Type 0
ArePrintable entered choice = Contains entered choice.state × IfSome choice.shift (Contains entered)

-- the conflicts of a file's table, and their counts
pub record IsCountOf (file : GrammarFile) (table : TableView) (conflicts : Conflicts) : Type 0 where
  pub are : AreConflicts file table conflicts.choices.items
  pub shifts : conflicts.shift_reduce ≡ shift_count conflicts.choices.items
  pub rules : conflicts.reduce_reduce ≡ min (rule_count conflicts.choices.items) MAX
