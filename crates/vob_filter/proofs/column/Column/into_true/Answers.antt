-- A value is true where its bit is.
use Rattle.vob_filter.proofs.ColumnLemmas.{column_len, true_rows}
use Rattle.vob_filter.proofs.column.Column.into_true.Goals as goal

pub returns-clause-len : goal.returns-clause-len
returns-clause-len c =
    (column_len c.self.inside.present.bits c.self.inside.value.bits _ c.self.invariant
    c.self.view_is).1

pub returns-clause-each : goal.returns-clause-each
returns-clause-each c =
    true_rows c.self.inside.present.bits c.self.inside.value.bits _ c.self.invariant c.self.view_is
