-- The next symbol is written.
use Rattle.std.proofs.Common.{refl}
use Rattle.std.proofs.lemmas.List.{drop_more, drop_all}
use Rattle.files_text.proofs.PrintedLemmas.{items_all, items_more, items_none}
use Rattle.vob_lr.specs.declared.grammar.Symbol.TheVariants.{Terminal}
use Rattle.files_grammar.proofs.rules.put_symbols.Goals as goal

pub loop-symbol-init : goal.loop-symbol-init
loop-symbol-init g c = items_all _ _ _ _ refl

pub loop-symbol-preserved : goal.loop-symbol-preserved
loop-symbol-preserved g c =
    items_more _ _ _ _ _ _ _ _
    (drop_more c.args.symbols.now c.loop-symbol.symbol-index (Terminal 0) c.loop-symbol-test.true)
    c.loop-symbol.invariant (rw (← c.of.ensures) c.in_ok-put_next.ensures)

pub returns : goal.returns
returns g c =
    items_none _ _ _ _ _ (drop_all c.loop-symbol.symbol-index c.args.symbols.now c.loop-symbol-test.false)
    c.loop-symbol.invariant
