-- The lines of the rules that are left are still to be written.
use Rattle.std.specs.Prelude.{length, ◌-◌}
use Rattle.std.specs.List.{range_with_len}
use Rattle.files_grammar.specs.ItemText.{SaysRule}
use Rattle.files_grammar.proofs.TextLemmas.{WritesBut}
use Rattle.files_grammar.proofs.rules.put_all.Given as goal

abbrev pub invariant-loop-number : goal.invariant-loop-number
invariant-loop-number g l =
    WritesBut (SaysRule l.names l.rules) (g.W.Write.contents l.fn.output) (g.W.Write.contents l.output)
    (range_with_len 0 (length l.rules)) (range_with_len l.number (length l.rules - l.number))
