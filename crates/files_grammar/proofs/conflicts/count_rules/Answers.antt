-- The rules of the next conflict are added.
use Rattle.std.proofs.Common.{arith}
use Rattle.std.proofs.lemmas.List.{take_all}
use Rattle.std.below.core.specs.declared.int.usize.TheConstants.{MAX}
use Rattle.files_grammar.proofs.CountLemmas.{count_more}
use Rattle.files_grammar.proofs.conflicts.count_rules.Goals as goal

pub loop-place-preserved : goal.loop-place-preserved
loop-place-preserved c =
    count_more c.args.choices.now c.loop-place.place c.loop-place.count c.surplus.result c.saturating_add-count.result
    MAX c.index-choices-place.result (omega arith) c.index-choices-place.is c.surplus.ensures c.loop-place.invariant
    c.saturating_add-count.ensures

pub returns : goal.returns
returns c =
    rw (← take_all c.loop-place.place c.args.choices.now (omega arith)) c.loop-place.invariant
