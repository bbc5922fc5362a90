-- The line of the last rule that is left is written.
use Rattle.std.proofs.Common.{ap, arith, length, reverse}
use Rattle.std.proofs.lemmas.List.{take_all}
use Rattle.files_text.proofs.PrintedLemmas.{items_all, items_more, items_none}
use Rattle.files_parse.proofs.ParseLemmas.{last_taken, none_taken}
use Rattle.files_parse.proofs.parse.put_derivation.Goals as goal

pub loop-place-init : goal.loop-place-init
loop-place-init g c = items_all _ _ _ _ (ap reverse (take_all (length c.args.rules.now) c.args.rules.now (omega arith)))

pub loop-place-preserved : goal.loop-place-preserved
loop-place-preserved g c =
    items_more _ _ _ _ _ _ _ _
    (last_taken c.args.rules.now c.loop-place.place c.loop-place-test.true c.loop-place.auto.place)
    c.loop-place.invariant c.in_ok-put_numbered.ensures

pub returns : goal.returns
returns g c =
    items_none _ _ _ _ _ (none_taken c.args.rules.now c.loop-place.place c.loop-place-test.false) c.loop-place.invariant
