-- The columns of an empty matrix of the other shape are marked.
use Rattle.std.proofs.Common.{◌∙◌, refl}
use Rattle.vob_matrix.proofs.MatrixLemmas.{IsTransposed-marked}
use Rattle.vob_matrix.proofs.matrix.BitMatrix.transpose.Goals as goal

pub returns-clause-transposed : goal.returns-clause-transposed
returns-clause-transposed c =
    IsTransposed-marked c.args.self.now c.fill_columns.new.rows c.in_ok-rows.rows.rows
    c.fill_columns.new.rows.rows
    (rw (c.columns.ensures.columns, c.rows.ensures) at c.in_ok-rows.ensures.rows) refl
    (c.fill_columns.ensures.columns ∙ c.in_ok-rows.ensures.columns ∙ c.rows.ensures)
    (rw c.self.view_is at c.fill_columns.ensures.marked)
