-- The table has the states of the grammar, and a file without one is at fault.
use Rattle.std.proofs.lemmas.Result.{err_from_is_err_and}
use Rattle.files_parse.proofs.parse.table_of.Goals as goal

pub returns-clause-ok : goal.returns-clause-ok
returns-clause-ok c = record { is = c.in_ok-table.ensures.ok; sound = c.lookaheads-states.ensures.sound }

pub returns-in_err-table-clause-err : goal.returns-in_err-table-clause-err
returns-in_err-table-clause-err c =
    let p = err_from_is_err_and c.from_residual.result c.from_residual.ensures.1 in
    rw (p.1, p.2) c.in_err-table.ensures.err
