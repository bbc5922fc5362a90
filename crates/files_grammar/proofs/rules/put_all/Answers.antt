-- The line of the next rule is written.
use Rattle.std.proofs.Common.{ap, arith, length}
use Rattle.std.specs.List.{range_with_len}
use Rattle.files_text.proofs.PrintedLemmas.{range_more, range_none}
use Rattle.files_grammar.proofs.TextLemmas.{texts_all, texts_more, texts_none}
use Rattle.files_grammar.proofs.rules.put_all.Goals as goal

pub loop-number-init : goal.loop-number-init
loop-number-init g c = texts_all _ _ _ _ (ap (range_with_len 0) (omega arith))

pub loop-number-preserved : goal.loop-number-preserved
loop-number-preserved g c =
    texts_more _ _ _ _ _ _ _ _ (range_more c.loop-number.number (length c.args.rules.now) c.loop-number-test.true)
    c.loop-number.invariant c.in_ok-put_numbered.ensures

pub returns : goal.returns
returns g c =
    texts_none _ _ _ _ _ (range_none c.loop-number.number (length c.args.rules.now) (omega arith))
    c.loop-number.invariant
