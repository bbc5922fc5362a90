-- The walk gives the numbers in their order.
use Rattle.std.proofs.lemmas.Result.{IfOk-weaker}
use Rattle.std.proofs.lemmas.Iterator.{items_from_collect}
use Rattle.vob_walk.proofs.IndexLemmas.{YieldsList-from_walk}
use Rattle.vob_lr.proofs.ClosureLemmas.{AreThose-matches}
use Rattle.vob_lr.proofs.closure.numbers_of.Goals as goal

pub returns : goal.returns
returns c =
    let walk = YieldsList-from_walk _ (c.iter_set_bits.ensures.fresh tt).whole.rest in
    IfOk-weaker c.collect.result _ _ (λ list is. AreThose-matches c.args.set.now.bits list.items is)
    (items_from_collect c.collect.result c.collect.ensures.ran walk)
