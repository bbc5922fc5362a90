-- The word behind white space is next.
use Rattle.std.proofs.lemmas.Result.{err_from_is_err_and}
use Rattle.files_condition.proofs.WordsLemmas.{next_then, unclosed_then}
use Rattle.files_condition.proofs.words.Words.next.Goals as goal

pub returns-in_err-found-clause-err : goal.returns-in_err-found-clause-err
returns-in_err-found-clause-err c =
    let p = err_from_is_err_and c.from_residual.result c.from_residual.ensures.1 in
    rw (p.1, p.2)
    (unclosed_then c.args.self.now.at _ c.args.self.now.rest.now _ c.pass_white.ensures.white _
    c.in_err-found.ensures.err)

pub returns-clause-ok : goal.returns-clause-ok
returns-clause-ok c =
    next_then c.args.self.now.at _ c.args.self.now.rest.now _ c.pass_white.ensures.white c.in_ok-found.found _ _
    c.in_ok-found.ensures.ok
