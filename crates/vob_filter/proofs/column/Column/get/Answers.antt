-- The two bits that a value is.
use Rattle.std.proofs.Common.{refl, sym, ◌∙◌, true, false, arith}
use Rattle.vob_filter.proofs.ColumnLemmas.{column_len, value_read}
use Rattle.vob_filter.proofs.column.Column.get.Goals as goal

pub get_unchecked-requires : goal.get_unchecked-requires
get_unchecked-requires c =
    let own = column_len c.self.inside.present.bits c.self.inside.value.bits _ c.self.invariant
    c.self.view_is in
    omega (arith, own.0, c.requires)

pub get_unchecked-requires-then-get_unchecked : goal.get_unchecked-requires-then-get_unchecked
get_unchecked-requires-then-get_unchecked c =
    let own = column_len c.self.inside.present.bits c.self.inside.value.bits _ c.self.invariant
    c.self.view_is in
    omega (arith, own.1, c.requires)

pub returns-then-get_unchecked : goal.returns-then-get_unchecked
returns-then-get_unchecked c =
    value_read c.self.inside.present.bits c.self.inside.value.bits _ c.args.index true _
    c.self.invariant c.self.view_is (sym c.if-get_unchecked.true ∙ c.get_unchecked.ensures.item)
    c.get_unchecked-then-get_unchecked.ensures.item

pub returns-else-get_unchecked : goal.returns-else-get_unchecked
returns-else-get_unchecked c =
    value_read c.self.inside.present.bits c.self.inside.value.bits _ c.args.index false _
    c.self.invariant c.self.view_is (sym c.if-get_unchecked.false
    ∙ c.get_unchecked.ensures.item) refl
