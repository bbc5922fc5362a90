-- None is missing.
use Rattle.std.proofs.Common.{length, replicate, true, ap, ◌∙◌}
use Rattle.vob_filter.specs.Columns.{values_of}
use Rattle.vob_filter.specs.Comparisons.{holds}
use Rattle.vob_filter.proofs.ColumnLemmas.{values_of-all}
use Rattle.vob_filter.proofs.compare.compare.Goals as goal

pub returns : goal.returns
returns c =
    c.column_of.ensures
    ∙ ap (λ bits. values_of bits c.in_ok-value.value.bits)
    c.in_ok-present.ensures.bits
    ∙ ap (values_of (replicate (length c.args.values.now) true)) c.in_ok-value.ensures
    ∙ values_of-all (holds c.args.comparison) c.args.values.now
