-- The lines of the states that are left are still to be written.
use Rattle.std.specs.Prelude.{◌-◌, length}
use Rattle.std.specs.List.{range_with_len}
use Rattle.files_grammar.specs.StateText.{SaysState}
use Rattle.files_grammar.proofs.TextLemmas.{WritesBut}
use Rattle.files_grammar.proofs.state_text.put_states.Given as goal

abbrev pub invariant-loop-number : goal.invariant-loop-number
invariant-loop-number g l =
    WritesBut (SaysState l.table l.names l.states) (g.W.Write.contents l.fn.output) (g.W.Write.contents l.output)
    (range_with_len 0 (length l.states)) (range_with_len l.number (length l.states - l.number))
