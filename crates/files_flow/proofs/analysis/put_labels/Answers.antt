-- The label of the next place is written.
use Rattle.std.proofs.Common.{arith, refl}
use Rattle.std.proofs.lemmas.List.{drop_all, drop_more}
use Rattle.files_text.proofs.PrintedLemmas.{items_all, items_more, items_none}
use Rattle.files_flow.proofs.analysis.put_labels.Goals as goal

pub loop-place-init : goal.loop-place-init
loop-place-init g c = items_all _ _ _ _ refl

pub loop-place-preserved : goal.loop-place-preserved
loop-place-preserved g c = items_more _ _ _ _ _ _ _ _
    (drop_more c.args.places.now c.loop-place.place-index 0 c.loop-place-test.true) c.loop-place.invariant
    (rw (← c.is_first-is_first.ensures, ← c.label_at.ensures) c.in_ok-put_label.ensures.ok)

pub returns-clause-ok : goal.returns-clause-ok
returns-clause-ok g c = rw (← c.first_of-first.ensures) (items_none _ _ _ _ _
    (drop_all c.loop-place.place-index c.args.places.now (omega (arith, c.loop-place-test.false))) c.loop-place.invariant)
