-- The line of the next item is written.
use Rattle.std.proofs.Common.{refl}
use Rattle.std.proofs.lemmas.List.{drop_more, drop_all}
use Rattle.files_grammar.proofs.TextLemmas.{texts_all, texts_more, texts_none}
use Rattle.files_grammar.proofs.state_text.put_items.Goals as goal

pub loop-number-init : goal.loop-number-init
loop-number-init g c = texts_all _ _ _ _ refl

pub loop-number-preserved : goal.loop-number-preserved
loop-number-preserved g c =
    texts_more _ _ _ _ _ _ _ _ (drop_more c.set_of-set.result.now c.loop-number.number-index 0 c.loop-number-test.true)
    c.loop-number.invariant c.in_ok-put_number.ensures

pub returns : goal.returns
returns g c =
    rw (← c.set_of-set.ensures)
    (texts_none _ _ _ _ _ (drop_all c.loop-number.number-index c.set_of-set.result.now c.loop-number-test.false)
    c.loop-number.invariant)
