-- What is known of a report on a grammar file.
use Rattle.std.specs.Prelude.{◌≡◌, ℕ, List, length, min}
use Rattle.std.below.core.specs.declared.int.usize.TheConstants.{MAX}
use Rattle.vob_lr.specs.Entered.{IsEntered}
use Rattle.vob_lr.specs.Tables.{TableView}
use Rattle.vob_lr.specs.Those.{AreThose}
use Rattle.files_grammar.specs.ConflictText.{rule_count, shift_count}
use Rattle.files_grammar.specs.Conflicts.{AreConflicts, Choice}
use Rattle.files_grammar.specs.GrammarFiles.{IsTableOf}
use Rattle.files_grammar.specs.GrammarText.{HasStatus}
use Rattle.files_grammar.specs.declared.file.GrammarFile.{GrammarFile}

-- a report has the states that a parser may enter, and the status says whether the file expects as many conflicts as its
-- table has. The reductions that are too many are counted up to the greatest number of the machine
pub record HasReport (file : GrammarFile) (status states : ℕ) : Type 0 where
  pub table : TableView
  pub table_is : IsTableOf file table
  pub entered : List ℕ
  pub are_entered : AreThose (IsEntered table) entered
  pub states_are : states ≡ length entered
  pub conflicts : List Choice
  pub are_conflicts : AreConflicts file table conflicts
  pub status_is : HasStatus file (shift_count conflicts) (min (rule_count conflicts) MAX) status
