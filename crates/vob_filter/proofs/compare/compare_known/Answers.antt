-- A number that is missing is so in both.
use Rattle.std.proofs.Common.{map, ap, ◌∙◌}
use Rattle.std.specs.Option.{is_some}
use Rattle.vob_filter.specs.Columns.{values_of}
use Rattle.vob_filter.proofs.ColumnLemmas.{values_of-known, AreColumn-known}
use Rattle.vob_filter.proofs.compare.compare_known.Goals as goal

pub column_of-requires : goal.column_of-requires
column_of-requires c = rw (c.in_ok-present.ensures, c.in_ok-value.ensures)
    (AreColumn-known c.args.comparison c.args.values.now)

pub returns : goal.returns
returns c =
    c.column_of.ensures ∙ ap (λ bits. values_of bits c.in_ok-value.value.bits)
    c.in_ok-present.ensures
    ∙ ap (values_of (map is_some c.args.values.now)) c.in_ok-value.ensures
    ∙ values_of-known c.args.comparison c.args.values.now
