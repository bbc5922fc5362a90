-- Each kept row is an index of the walk, which counts them.
use Rattle.std.proofs.Common.{ap, ◌∙◌, length, true}
use Rattle.vob_walk.proofs.IndexLemmas.{matches-count}
use Rattle.vob_filter.proofs.rows.count_rows.Goals as goal

pub returns : goal.returns
returns c =
    c.count.ensures ∙ ap length (c.iter_set_bits.ensures.fresh tt).whole.rest
    ∙ matches-count c.args.filter.now.bits true
