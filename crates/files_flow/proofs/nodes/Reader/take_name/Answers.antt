use Rattle.std.proofs.Common.{◌∷◌}
use Rattle.std.proofs.lemmas.Result.{err_from_is_err_and}
use Rattle.files_text.specs.Words.{token_of}
use Rattle.files_flow.specs.NodeFaults.IsFaulty.{comma, no_name}
use Rattle.files_flow.proofs.NodeLemmas.{second_read, stopped, was_found}
use Rattle.files_flow.proofs.nodes.Reader.take_name.Goals as goal

pub returns-in_err-check_no_comma-clause-err : goal.returns-in_err-check_no_comma-clause-err
returns-in_err-check_no_comma-clause-err c =
    let p = err_from_is_err_and c.from_residual.result c.from_residual.ensures.1 in
    let faulty = c.in_err-check_no_comma.ensures.err in
    rw (p.1, p.2)
    (λ words read rest. stopped c.args.self.now words (token_of c.args.word.now ∷ rest) read c.args.word.now.line
    c.args.word.now.column _ _ (rw c.requires.none (comma faulty.0)) faulty.1)

pub returns-in_err-check_name-clause-err : goal.returns-in_err-check_name-clause-err
returns-in_err-check_name-clause-err c =
    let p = err_from_is_err_and c.from_residual-in_err-check_name.result c.from_residual-in_err-check_name.ensures.1 in
    let faulty = c.in_err-check_name.ensures.err in
    rw (p.1, p.2)
    (λ words read rest. stopped c.args.self.now words (token_of c.args.word.now ∷ rest) read c.args.word.now.line
    c.args.word.now.column _ _ (rw c.requires.none (no_name faulty.0 c.requires.line)) faulty.1)

pub returns-then-is_some-clause-err : goal.returns-then-is_some-clause-err
returns-then-is_some-clause-err c words read rest =
    second_read c.args.self.now words rest (token_of c.args.word.now) read c.requires.none
    (c.in_ok-check_no_comma.ensures.ok, c.in_ok-check_name.ensures.ok.0, c.in_ok-check_name.ensures.ok.1) c.requires.line
    (was_found _ _ c.find.result c.find.ensures.some c.if-is_some.ensures) _ c.in_ok-from_utf8_lossy.ensures.lossy
