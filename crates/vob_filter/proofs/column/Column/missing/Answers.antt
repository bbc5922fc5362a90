-- No value is there.
use Rattle.std.proofs.Common.{refl, ◌∙◌, false, replicate}
use Rattle.std.proofs.lemmas.List.{length-replicate}
use Rattle.vob_filter.proofs.ColumnLemmas.{length-values_of, value_at-missing}
use Rattle.vob_filter.proofs.column.Column.missing.Goals as goal

pub returns-clause-len : goal.returns-clause-len
returns-clause-len c =
    rw (c.in_ok-present.ensures.bits, c.in_ok-value.ensures.bits)
    (length-values_of (replicate c.args.len false) (replicate c.args.len false) refl
    ∙ length-replicate c.args.len false)

pub returns-clause-missing : goal.returns-clause-missing
returns-clause-missing c =
    rw (c.in_ok-present.ensures.bits, c.in_ok-value.ensures.bits)
    (λ i. value_at-missing c.args.len i)
