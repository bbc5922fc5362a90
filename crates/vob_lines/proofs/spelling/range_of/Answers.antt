-- Whatever range the word were, its start and its end would be those beside these dots.
use Rattle.std.proofs.lemmas.Result.{err_from_is_err_and}
use Rattle.vob_lines.proofs.spelling.range_of.Goals as goal

-- no start before them
pub returns-in_err-start_of-clause-err : goal.returns-in_err-start_of-clause-err
returns-in_err-start_of-clause-err c =
    let p =
    err_from_is_err_and c.from_residual-in_err-start_of.result
    c.from_residual-in_err-start_of.ensures.1 in
    rw (p.1, p.2) (
      c.in_err-start_of.ensures.err.0,
      λ start end range. c.in_err-start_of.ensures.err.1 start
          (rw (c.in_ok-front.ensures.alone start end range).0 range.begins),
    )

-- no end behind them
pub returns-in_err-end_of-clause-err : goal.returns-in_err-end_of-clause-err
returns-in_err-end_of-clause-err c =
    let p =
    err_from_is_err_and c.from_residual-in_err-end_of.result
    c.from_residual-in_err-end_of.ensures.1 in
    rw (p.1, p.2) (
      c.in_err-end_of.ensures.err.0,
      λ start end range. c.in_err-end_of.ensures.err.1 end
          (rw (c.in_ok-front.ensures.alone start end range).1 range.ends),
    )
