-- The next reduction is written.
use Rattle.std.proofs.Common.{refl}
use Rattle.std.proofs.lemmas.List.{drop_more, drop_all}
use Rattle.files_text.proofs.PrintedLemmas.{Appends-both, items_all, items_more, items_none}
use Rattle.files_grammar.proofs.actions.put_others.Goals as goal

pub loop-rule-init : goal.loop-rule-init
loop-rule-init g c = items_all _ _ _ _ refl

pub loop-rule-preserved : goal.loop-rule-preserved
loop-rule-preserved g c =
    items_more _ _ _ _ _ _ _ _ (drop_more c.args.rules.now c.loop-rule.rule-index 0 c.loop-rule-test.true)
    c.loop-rule.invariant
    (Appends-both _ _ _ _ _ (rw (← c.as_bytes.ensures.value) c.in_ok-write_all.ensures.bytes)
    c.in_ok-put_reduction.ensures)

pub returns : goal.returns
returns g c =
    items_none _ _ _ _ _ (drop_all c.loop-rule.rule-index c.args.rules.now c.loop-rule-test.false)
    c.loop-rule.invariant
