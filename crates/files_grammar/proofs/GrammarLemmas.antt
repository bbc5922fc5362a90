-- The parts of what is printed, one after another.
use Rattle.std.proofs.Common.{ℕ, Bool, List, length, Option}
use Rattle.std.specs.Io.KnownBytes.{Appends}
use Rattle.vob_lr.specs.Entered.{IsEntered}
use Rattle.vob_lr.specs.Stops.{IsSound}
use Rattle.vob_lr.specs.Tables.{TableView}
use Rattle.vob_lr.specs.Those.{AreThose}
use Rattle.files_text.specs.Printed.{Writes}
use Rattle.files_grammar.specs.ConflictText.{SaysConflicts}
use Rattle.files_grammar.specs.ConflictsFound.{IsCountOf}
use Rattle.files_grammar.specs.GrammarFiles.{IsTableOf}
use Rattle.files_grammar.specs.GrammarText.{HasStatus, SaysGrammar, SaysWanted, counts_text}
use Rattle.files_grammar.specs.SetText.{SaysSets}
use Rattle.files_grammar.specs.declared.conflicts.Conflicts.{Conflicts}
use Rattle.files_grammar.specs.declared.file.GrammarFile.{GrammarFile}
use Rattle.files_grammar.proofs.TextLemmas.{after, both, writes_as}

pub says_grammar : (file : GrammarFile) (wants_states : Bool) (status : ℕ) (table : TableView) (entered : List ℕ)
    (conflicts : Conflicts) (a b c d e : Option (List ℕ)) → IsTableOf file table → IsSound table →
    AreThose (IsEntered table) entered → IsCountOf file table conflicts →
    HasStatus file conflicts.shift_reduce conflicts.reduce_reduce status →
    Appends a b (counts_text file.grammar (length entered) conflicts.shift_reduce conflicts.reduce_reduce) →
    Writes b c (SaysConflicts file.names entered conflicts.choices.items) →
    Writes c d (SaysSets file.grammar file.names) → Writes d e (SaysWanted wants_states file table entered) →
    Writes a e (SaysGrammar file wants_states status)
says_grammar file wants_states status table entered conflicts a b c d e of sound are found has counts lines sets
    wanted =
    writes_as a e (λ text says. record {
      table = table;
      table_is = of;
      sound = sound;
      entered = entered;
      are_entered = are;
      conflicts = conflicts.choices.items;
      are_conflicts = found.are;
      status_is = rw (← found.shifts, ← found.rules) has;
      written = rw (← found.shifts, ← found.rules) says;
    }) (after a b e _ counts (both b c e lines (both c d e sets wanted)))
