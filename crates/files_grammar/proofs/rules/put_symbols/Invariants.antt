-- The symbols that are left are still to be written.
use Rattle.std.specs.Prelude.{drop}
use Rattle.files_text.proofs.PrintedLemmas.{AppendsItems}
use Rattle.files_grammar.specs.Rules.{next_name}
use Rattle.files_grammar.proofs.rules.put_symbols.Given as goal

abbrev pub invariant-loop-symbol : goal.invariant-loop-symbol
invariant-loop-symbol g l =
    AppendsItems (next_name l.names) (g.W.Write.contents l.fn.output) (g.W.Write.contents l.output)
    l.symbols (drop l.symbol-index l.symbols)
