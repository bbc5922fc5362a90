-- What is known of a report, by its table, its states and its conflicts.
use Rattle.std.proofs.Common.{◌≡◌, ℕ, List, length}
use Rattle.vob_lr.specs.Entered.{IsEntered}
use Rattle.vob_lr.specs.Tables.{TableView}
use Rattle.vob_lr.specs.Those.{AreThose}
use Rattle.files_grammar.specs.ConflictsFound.{IsCountOf}
use Rattle.files_grammar.specs.GrammarFiles.{IsTableOf}
use Rattle.files_grammar.specs.GrammarText.{HasStatus}
use Rattle.files_grammar.specs.declared.conflicts.Conflicts.{Conflicts}
use Rattle.files_grammar.specs.declared.file.GrammarFile.{GrammarFile}
use Rattle.files_report.specs.Reports.{HasReport}

pub has_report : (file : GrammarFile) (status states : ℕ) (table : TableView) (entered : List ℕ)
    (conflicts : Conflicts) → IsTableOf file table → AreThose (IsEntered table) entered →
    states ≡ length entered → IsCountOf file table conflicts →
    HasStatus file conflicts.shift_reduce conflicts.reduce_reduce status → HasReport file status states
has_report file status states table entered conflicts of are count found has = record {
  table = table;
  table_is = of;
  entered = entered;
  are_entered = are;
  states_are = count;
  conflicts = conflicts.choices.items;
  are_conflicts = found.are;
  status_is = rw (← found.shifts, ← found.rules) has;
}
