-- The lines of the terminals that are left are still to be written.
use Rattle.std.specs.Prelude.{◌-◌}
use Rattle.std.specs.List.{range_with_len}
use Rattle.files_grammar.specs.ActionText.{SaysCellAt}
use Rattle.files_grammar.proofs.TextLemmas.{WritesBut}
use Rattle.files_grammar.proofs.state_text.put_cells.Given as goal

abbrev pub invariant-loop-terminal : goal.invariant-loop-terminal
invariant-loop-terminal g l =
    WritesBut (SaysCellAt l.table l.names l.states l.state) (g.W.Write.contents l.fn.output)
    (g.W.Write.contents l.output) (range_with_len 0 l.table.machine.grammar.terminals)
    (range_with_len l.terminal (l.table.machine.grammar.terminals - l.terminal))
