-- What is printed of a grammar file.
use Rattle.std.specs.Prelude.{◌≡◌, ◌⊎◌, ℕ, Bool, true, false, List, [], ◌++◌, codes, length, min}
use Rattle.std.specs.Fmt.{decimal}
use Rattle.std.below.core.specs.declared.int.usize.TheConstants.{MAX}
use Rattle.vob_lr.specs.Entered.{IsEntered}
use Rattle.vob_lr.specs.Stops.{IsSound}
use Rattle.vob_lr.specs.Tables.{TableView}
use Rattle.vob_lr.specs.Those.{AreThose}
use Rattle.vob_lr.specs.declared.grammar.Grammar.{Grammar}
use Rattle.files_text.specs.Printed.{line_end}
use Rattle.files_grammar.specs.ConflictText.{AreExpected, SaysConflicts, rule_count, shift_count}
use Rattle.files_grammar.specs.Conflicts.{AreConflicts, Choice}
use Rattle.files_grammar.specs.GrammarFiles.{IsTableOf}
use Rattle.files_grammar.specs.SetText.{SaysSets}
use Rattle.files_grammar.specs.ItemText.{SaysRules}
use Rattle.files_grammar.specs.StateText.{SaysStates}
use Rattle.files_grammar.specs.Texts.{Both}
use Rattle.files_grammar.specs.declared.file.GrammarFile.{GrammarFile}

-- the line of a count: a word, and the number
abbrev pub count_line : List ℕ → ℕ → List ℕ
count_line word count = word ++ decimal count ++ line_end

-- how many symbols and rules there are
abbrev pub symbols_text : Grammar → List ℕ
symbols_text grammar = count_line (codes "terminals ") grammar.terminals
    ++ count_line (codes "nonterminals ") grammar.nonterminals
    ++ count_line (codes "rules ") (length grammar.rules.items)

-- how many conflicts there are with a shift
abbrev pub shifts_text : ℕ → List ℕ
shifts_text shifts = codes "conflicts " ++ decimal shifts ++ codes " shift/reduce, "

-- and how many rules are too many
abbrev pub rules_text : ℕ → List ℕ
rules_text rules = decimal rules ++ codes " reduce/reduce" ++ line_end

-- how many symbols, rules, states and conflicts there are
abbrev pub counts_text : Grammar → (states shifts rules : ℕ) → List ℕ
counts_text grammar states shifts rules =
    symbols_text grammar ++ count_line (codes "states ") states ++ shifts_text shifts
    ++ rules_text rules

-- the rules and the states, if they are wanted
abbrev pub SaysWanted : Bool → GrammarFile → TableView → (entered : List ℕ) → List ℕ → Type 0
SaysWanted false file table entered text = text ≡ []
SaysWanted true file table entered text = Both (SaysRules file.names file.grammar.rules.items)
    (SaysStates table file.names entered) text

-- the status is 0 exactly if these counts of conflicts are those that a file expects, and else 1
abbrev pub HasStatus : GrammarFile → (shifts rules status : ℕ) → Type 0
HasStatus file shifts rules status = (AreExpected file.expected shifts rules × (status ≡ 0))
    ⊎ ((¬ AreExpected file.expected shifts rules) × (status ≡ 1))

-- the counts, the conflicts, the sets of nonterminals, and perhaps the rules and the states. The reductions that are
-- too many are counted up to the greatest number of the machine
pub record SaysGrammar (file : GrammarFile) (wants_states : Bool) (status : ℕ) (text : List ℕ) : Type 0 where
  pub table : TableView
  pub table_is : IsTableOf file table
  pub sound : IsSound table
  pub entered : List ℕ
  pub are_entered : AreThose (IsEntered table) entered
  pub conflicts : List Choice
  pub are_conflicts : AreConflicts file table conflicts
  pub status_is : HasStatus file (shift_count conflicts) (min (rule_count conflicts) MAX) status
  pub written : Both (λ part. part ≡
      counts_text file.grammar (length entered) (shift_count conflicts) (min (rule_count conflicts) MAX))
      (Both (SaysConflicts file.names entered conflicts) (Both (SaysSets file.grammar file.names)
      (SaysWanted wants_states file table entered))) text
