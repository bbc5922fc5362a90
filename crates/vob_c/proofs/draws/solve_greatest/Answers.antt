-- The graph and the sets are those of the arrays.
use Rattle.std.proofs.Common.{◌∙◌, ap, length, sym}
use Rattle.vob_c.proofs.RowsLemmas.{length-rows_in}
use Rattle.vob_c.proofs.draws.solve_greatest.Goals as goal

pub greatest-requires : goal.greatest-requires
greatest-requires c = c.in_ok-graph.ensures.count ∙ sym (ap length c.in_ok-made.ensures.rows ∙ length-rows_in _ _ _)

pub returns-clause-shape : goal.returns-clause-shape
returns-clause-shape c = (
  c.in_ok-greatest.ensures.greatest.solution.shape.count ∙ ap length c.in_ok-made.ensures.rows ∙ length-rows_in _ _ _,
  c.in_ok-greatest.ensures.columns ∙ c.in_ok-made.ensures.columns,
)
