-- The adapters take of the rows that the walk gives, which are those up to a rank.
use Rattle.std.proofs.Common.{ap, sym, ◌-◌, ◌∙◌, take, refl, arith}
use Rattle.std.proofs.Math.Seq.{take-nil}
use Rattle.std.proofs.lemmas.Iterator.{YieldsList-from_take, items_from_collect}
use Rattle.std.proofs.lemmas.Iterator.Consumers.{YieldsList-at}
use Rattle.vob_walk.specs.Walk.{Walk}
use Rattle.vob_walk.proofs.IndexLemmas.{YieldsList-from_rev_walk}
use Rattle.vob_filter.proofs.PageLemmas.{matches-back, matches-back_past}
use Rattle.vob_filter.proofs.rows.page_back.Goals as goal

pub returns : goal.returns
returns c =
    let bits = c.args.filter.now.bits in
    let back = matches-back bits c.args.skip
    (c.count_ones-kept.result - 1 - c.args.skip) c.in-Some.last
    (omega (arith, c.if-skip-kept.false, c.count_ones-kept.ensures.count))
    ((c.in-Some.ensures.rank.some c.in-Some.last).0 refl) in
    let walk = YieldsList-from_rev_walk _
    (ap (λ (w : Walk). w.rest) c.rev.ensures.source
    ∙ (c.iter_set_bits.ensures.fresh tt).whole.rest) in
    let some = YieldsList-from_take c.args.count (YieldsList-at c.take.ensures.source walk)
    c.take.ensures.count in
    rw (← back) (items_from_collect c.collect.result c.collect.ensures.ran some)

pub returns-then-skip-kept : goal.returns-then-skip-kept
returns-then-skip-kept c =
    c.new.ensures.items
    ∙ sym (ap (take c.args.count) (matches-back_past c.args.filter.now.bits c.args.skip
    (omega (arith, c.if-skip-kept.true, c.count_ones-kept.ensures.count)))
    ∙ take-nil c.args.count)

-- there is such a row
pub returns-in_default : goal.returns-in_default
returns-in_default c = absurd (omega (
  arith,
  c.in_default.ensures.rank.none.0 refl,
  c.if-skip-kept.false,
  c.count_ones-kept.ensures.count,
))
