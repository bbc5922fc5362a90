-- The filter has a bit for each row, set where the condition is true.
use Rattle.files_filter.proofs.BlocksLemmas as blocks
use Rattle.files_filter.proofs.filter.kept_rows.Goals as goal

pub returns-clause-rows : goal.returns-clause-rows
returns-clause-rows c =
    blocks.kept_rows (λ kept. kept.bits) c.args.expression.now c.args.rows.now _ c.select.result
    c.in_ok-columns.ensures.each (rw (c.deref.ensures.value) at c.select.ensures)
