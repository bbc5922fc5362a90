-- As many as there are bits.
use Rattle.std.proofs.Common.{◌∙◌}
use Rattle.vob_filter.proofs.ColumnLemmas.{column_len}
use Rattle.vob_filter.proofs.column.Column.len.Goals as goal

pub returns : goal.returns
returns c = c.len.ensures.len ∙ (column_len c.self.inside.present.bits c.self.inside.value.bits _
    c.self.invariant c.self.view_is).0
