use Rattle.std.proofs.lemmas.Result.{err_from_is_err_and}
use Rattle.files_flow.proofs.nodes.Reader.take_other.Goals as goal

pub returns-in_err-take_more-clause-err : goal.returns-in_err-take_more-clause-err
returns-in_err-take_more-clause-err c =
    let p = err_from_is_err_and c.from_residual.result c.from_residual.ensures.1 in
    rw (p.1, p.2) c.in_err-take_more.ensures.err
