-- The lines of the items that are left are still to be written.
use Rattle.std.specs.Prelude.{drop}
use Rattle.files_grammar.specs.ItemText.{SaysItemAt}
use Rattle.files_grammar.proofs.TextLemmas.{WritesBut}
use Rattle.files_grammar.proofs.state_text.put_items.Given as goal

abbrev pub invariant-loop-number : goal.invariant-loop-number
invariant-loop-number g l =
    WritesBut (SaysItemAt l.states l.names l.state) (g.W.Write.contents l.fn.output) (g.W.Write.contents l.output)
    l.set (drop l.number-index l.set)
