-- Where a value is present, its bit differs from true.
use Rattle.vob_filter.proofs.ColumnLemmas.{AreValuesChanged-not}
use Rattle.vob_filter.proofs.column.Column.not.Goals as goal

pub returns : goal.returns
returns c =
    rw (← c.self.view_is)
    (AreValuesChanged-not c.self.inside.present.bits c.self.inside.value.bits c.self.invariant
    c.xor.new.self.bits c.xor.ensures.each)
