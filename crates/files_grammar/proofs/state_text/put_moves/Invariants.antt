-- The lines of the moves that are left are still to be written.
use Rattle.std.specs.Prelude.{drop}
use Rattle.files_grammar.specs.StateText.{SaysMove}
use Rattle.files_grammar.proofs.TextLemmas.{WritesBut}
use Rattle.files_grammar.proofs.state_text.put_moves.Given as goal

abbrev pub invariant-loop-own : goal.invariant-loop-own
invariant-loop-own g l =
    WritesBut (SaysMove l.names l.states) (g.W.Write.contents l.fn.output) (g.W.Write.contents l.output)
    l.moves (drop l.own-index l.moves)
