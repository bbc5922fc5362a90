-- A table has as many columns as the rows, and without a table all nodes are taken in one group.
use Rattle.std.proofs.Common.{◌∙◌, ap, arith}
use Rattle.std.proofs.lemmas.List.{length-replicate}
use Rattle.vob_matrix.proofs.PathLemmas.{AreClosed-within}
use Rattle.vob_matrix.proofs.closing.close_rows.Goals as goal

pub returns-then-nodes-lt-LEAST_ROWS-clause-closed : goal.returns-then-nodes-lt-LEAST_ROWS-clause-closed
returns-then-nodes-lt-LEAST_ROWS-clause-closed c =
    AreClosed-within _ _ _ _ c.rows-nodes.ensures c.columns-columns.ensures.long
    c.close_within.ensures.closed

pub returns-in-Err-clause-closed : goal.returns-in-Err-clause-closed
returns-in-Err-clause-closed c =
    AreClosed-within _ _ _ _ c.rows-nodes.ensures c.columns-columns.ensures.long
    c.close_within-in-Err.ensures.closed
