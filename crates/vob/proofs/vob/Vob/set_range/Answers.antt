-- The value is known where the bits are changed.
use Rattle.vob.proofs.RangeLemmas.{IsChangedWithin-value}
use Rattle.vob.proofs.vob.Vob.set_range.Goals as goal

pub returns-then-value-clause-each : goal.returns-then-value-clause-each
returns-then-value-clause-each g c = rw c.if-value.true c.change_within.ensures.each

pub returns-then-value-clause-some : goal.returns-then-value-clause-some
returns-then-value-clause-some g c = rw c.if-value.true c.change_within.ensures.some

pub returns-then-value-clause-bits : goal.returns-then-value-clause-bits
returns-then-value-clause-bits g c = λ in_range.
    IsChangedWithin-value (returns-then-value-clause-each g c in_range)

pub returns-else-value-clause-each : goal.returns-else-value-clause-each
returns-else-value-clause-each g c = rw c.if-value.false c.change_within-else-value.ensures.each

pub returns-else-value-clause-some : goal.returns-else-value-clause-some
returns-else-value-clause-some g c = rw c.if-value.false c.change_within-else-value.ensures.some

pub returns-else-value-clause-bits : goal.returns-else-value-clause-bits
returns-else-value-clause-bits g c = λ in_range.
    IsChangedWithin-value (returns-else-value-clause-each g c in_range)
