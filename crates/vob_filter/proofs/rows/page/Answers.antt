-- The adapter takes of the rows that the walk gives, which are those from a rank on.
use Rattle.std.proofs.Common.{ap, sym, ◌∙◌, take, refl}
use Rattle.std.proofs.lemmas.Iterator.{YieldsList-from_take, items_from_collect}
use Rattle.std.proofs.lemmas.Iterator.Consumers.{YieldsList-at}
use Rattle.std.proofs.Math.Seq.{take-nil}
use Rattle.vob_walk.proofs.IndexLemmas.{YieldsList-from_walk}
use Rattle.vob_filter.proofs.PageLemmas.{matches-from, matches-past}
use Rattle.vob_filter.proofs.rows.page.Goals as goal

pub returns : goal.returns
returns c =
    let walk = YieldsList-from_walk _ ((c.iter_set_bits.ensures.fresh tt).whole.rest
    ∙ matches-from c.args.filter.now.bits c.args.skip c.in-Some.first
    ((c.in-Some.ensures.rank.some c.in-Some.first).0 refl)) in
    let some = YieldsList-from_take c.args.count (YieldsList-at c.take.ensures.source walk)
    c.take.ensures.count in
    items_from_collect c.collect.result c.collect.ensures.ran some

pub returns-in_default : goal.returns-in_default
returns-in_default c =
    c.new.ensures.items
    ∙ sym (ap (take c.args.count)
    (matches-past c.args.filter.now.bits c.args.skip (c.in_default.ensures.rank.none.0 refl))
    ∙ take-nil c.args.count)
