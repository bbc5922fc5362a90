-- The lines of the nonterminals that are left are still to be written.
use Rattle.std.specs.Prelude.{◌-◌}
use Rattle.std.specs.List.{range_with_len}
use Rattle.files_text.proofs.PrintedLemmas.{AppendsItems}
use Rattle.files_grammar.proofs.SetTextLemmas.{lines_at}
use Rattle.files_grammar.proofs.sets.put_sets.Given as goal

abbrev pub invariant-loop-number : goal.invariant-loop-number
invariant-loop-number g l =
    AppendsItems (lines_at l.file.names l.sets.nullable.bits l.sets.first.rows l.sets.follow.rows)
    (g.W.Write.contents l.fn.output) (g.W.Write.contents l.output)
    (range_with_len 0 l.file.grammar.nonterminals)
    (range_with_len l.number (l.file.grammar.nonterminals - l.number))
