-- As many as the filter keeps.
use Rattle.std.proofs.Common.{◌∙◌}
use Rattle.vob_filter.proofs.FilterLemmas.{true_count-kept}
use Rattle.vob_filter.proofs.filter.count.Goals as goal

pub returns : goal.returns
returns c =
    c.count_ones.ensures.count
    ∙ true_count-kept c.args.expression.now c.args.columns.now c.args.rows c.in_ok-kept.kept.bits
    c.in_ok-kept.ensures
