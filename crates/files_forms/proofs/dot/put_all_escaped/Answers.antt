-- The next byte is written.
use Rattle.std.proofs.Common.{refl}
use Rattle.std.proofs.lemmas.List.{drop_more, drop_all}
use Rattle.files_text.proofs.PrintedLemmas.{items_all, items_more, items_none}
use Rattle.files_forms.proofs.dot.put_all_escaped.Goals as goal

pub loop-byte-init : goal.loop-byte-init
loop-byte-init g c = items_all _ _ _ _ refl

pub loop-byte-preserved : goal.loop-byte-preserved
loop-byte-preserved g c =
    items_more _ _ _ _ _ _ _ _ (drop_more c.args.name.now c.loop-byte.byte-index 0 c.loop-byte-test.true)
    c.loop-byte.invariant c.in_ok-put_escaped.ensures

pub returns : goal.returns
returns g c =
    items_none _ _ _ _ _ (drop_all c.loop-byte.byte-index c.args.name.now c.loop-byte-test.false) c.loop-byte.invariant
