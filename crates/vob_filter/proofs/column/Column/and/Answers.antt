-- By index, of the bits that both columns have.
use Rattle.std.proofs.Common.{arith}
use Rattle.vob_filter.proofs.ColumnLemmas.{column_len, AreValuesCombined-and}
use Rattle.vob_filter.proofs.column.Column.and.Goals as goal

pub and-requires : goal.and-requires
and-requires c =
    let own = column_len c.self.inside.present.bits c.self.inside.value.bits _ c.self.invariant
    c.self.view_is in
    let others = column_len c.other.inside.present.bits c.other.inside.value.bits _
    c.other.invariant
    c.other.view_is in
    omega (arith, own.1, others.1, c.requires)

pub or_and_not-requires-clause-first : goal.or_and_not-requires-clause-first
or_and_not-requires-clause-first c =
    let own = column_len c.self.inside.present.bits c.self.inside.value.bits _ c.self.invariant
    c.self.view_is in
    let others = column_len c.other.inside.present.bits c.other.inside.value.bits _
    c.other.invariant
    c.other.view_is in
    omega (arith, own.0, others.0, c.requires, c.xor.ensures.each.len, c.or.ensures.each.len)

pub or_and_not-requires-clause-second : goal.or_and_not-requires-clause-second
or_and_not-requires-clause-second c =
    let own = column_len c.self.inside.present.bits c.self.inside.value.bits _ c.self.invariant
    c.self.view_is in
    let others = column_len c.other.inside.present.bits c.other.inside.value.bits _
    c.other.invariant
    c.other.view_is in
    omega (arith, own.0, others.1, c.requires, c.xor.ensures.each.len, c.or.ensures.each.len)

pub returns : goal.returns
returns c =
    rw (← c.self.view_is, ← c.other.view_is)
    (AreValuesCombined-and c.self.inside.present.bits c.self.inside.value.bits c.self.invariant
    c.other.inside.present.bits c.other.inside.value.bits c.other.invariant c.xor.new.self.bits
    c.and.new.self.bits c.or.new.self.bits c.or_and_not.new.self.bits c.xor.ensures.each
    c.and.ensures.each c.or.ensures.each c.or_and_not.ensures.each)
