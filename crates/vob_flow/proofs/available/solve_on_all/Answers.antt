-- The near sides are copies until they become what the far sides have in common.
use Rattle.vob_flow.proofs.AvailableLemmas.{HoldOnAll-common}
use Rattle.vob_flow.proofs.available.solve_on_all.Goals as goal

pub returns-clause-hold : goal.returns-clause-hold
returns-clause-hold c = HoldOnAll-common _ _ _ _ _ _ _ _ c.requires.count
    (rw c.columns-columns.ensures.columns at c.columns-columns.ensures.long)
    c.in_ok-solve_beside.ensures.greatest
    (rw c.in_ok-near.ensures.rows at c.intersect_each.ensures.common) c.clear_entry.ensures.shape
    c.clear_entry.ensures.cleared
