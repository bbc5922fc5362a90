-- A bit of each list is set.
use Rattle.std.proofs.Common.{set, ap, ◌∙◌, arith}
use Rattle.std.specs.Option.{is_some}
use Rattle.vob_filter.specs.Columns.{value_of, values_of}
use Rattle.vob_filter.proofs.ColumnLemmas.{column_len, values_of-set, value_back}
use Rattle.vob_filter.proofs.column.Column.set.Goals as goal

pub set-requires : goal.set-requires
set-requires c =
    let own = column_len c.self.inside.present.bits c.self.inside.value.bits _ c.self.invariant
    c.self.view_is in
    omega (arith, own.0, c.requires)

pub set-requires-2 : goal.set-requires-2
set-requires-2 c =
    let own = column_len c.self.inside.present.bits c.self.inside.value.bits _ c.self.invariant
    c.self.view_is in
    omega (arith, own.1, c.requires)

pub returns : goal.returns
returns c =
    let present = c.self.inside.present.bits in
    let value = c.self.inside.value.bits in
    let i = c.args.index in
    ap (λ bits. values_of bits c.set-2.new.self.bits) c.set.ensures.bits
    ∙ ap (values_of (set present i c.is_some.result)) c.set-2.ensures.bits
    ∙ values_of-set present value i c.is_some.result c.unwrap_or.result c.self.invariant.same
    ∙ ap (λ v. set (values_of present value) i (value_of v c.unwrap_or.result)) c.is_some.ensures
    ∙ ap (λ x. set (values_of present value) i (value_of (is_some c.args.value) x))
    c.unwrap_or.ensures
    ∙ ap (set (values_of present value) i) (value_back c.args.value)
    ∙ ap (λ column. set column i c.args.value) c.self.view_is
