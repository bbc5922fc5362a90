-- The table has the unions of the rows of the group, which are closed by then.
use Rattle.vob_matrix.proofs.PathLemmas.{IsClosedThrough-linked}
use Rattle.vob_matrix.proofs.closing.close_group.Goals as goal

pub returns-clause-closed : goal.returns-clause-closed
returns-clause-closed c =
    IsClosedThrough-linked _ _ _ _ _ c.close_within.ensures.closed
    (c.link_rows.ensures.linked _ c.fill_unions.ensures.each)
