-- A row of the others is as long as there are rows, and marks its column.
use Rattle.std.proofs.Common.{◌∙◌}
use Rattle.vob_matrix.proofs.MatrixLemmas.{AreMarkedBefore-more}
use Rattle.vob_matrix.proofs.matrix.mark_columns.Goals as goal

pub loop-column-preserved : goal.loop-column-preserved
loop-column-preserved c = record {
  marked = AreMarkedBefore-more _ _ c.loop-column.column _ _ c.loop-column.invariant.marked
      (rw c.row.ensures.bits at c.mark_column.ensures.marked);
  columns = c.mark_column.ensures.columns ∙ c.loop-column.invariant.columns;
}
