-- What is read of a grammar file, and the table of its grammar.
use Rattle.std.specs.Prelude.{◌≡◌, ℕ, length, None, Option, slice_index_or}
use Rattle.vob_lr.specs.Tables.{AreRowsOfCells, TableView}
use Rattle.vob_lr.specs.declared.precedence.Precedence.{Precedence}
use Rattle.files_grammar.specs.declared.file.GrammarFile.{GrammarFile}

-- the precedence of a terminal
abbrev pub precedence_of : GrammarFile → ℕ → Option Precedence
precedence_of file t = slice_index_or file.precedences.items t None

-- the precedence of a rule
abbrev pub rule_precedence_of : GrammarFile → ℕ → Option Precedence
rule_precedence_of file r = slice_index_or file.rule_precedences.items r None

-- the states of the file's grammar, and the cells that its precedences leave
pub record IsTableOf (file : GrammarFile) (table : TableView) : Type 0 where
  pub grammar : table.machine.grammar ≡ file.grammar
  pub cells : AreRowsOfCells table.machine file.precedences.items file.rule_precedences.items
      (length table.machine.sets) table.cells
