use Rattle.std.proofs.Common.{◌∷◌, refl}
use Rattle.std.proofs.lemmas.Result.{err_from_is_err_and}
use Rattle.files_text.specs.Words.{token_of}
use Rattle.files_flow.specs.NodeFaults.IsFaulty.{comma, no_part}
use Rattle.files_flow.proofs.NodeLemmas.{key_more, more_read, semicolon_more, stopped, text_is, text_isnt}
use Rattle.files_flow.proofs.nodes.Reader.take_key.Goals as goal

pub returns-in_err-check_no_comma-clause-err : goal.returns-in_err-check_no_comma-clause-err
returns-in_err-check_no_comma-clause-err c =
    let p = err_from_is_err_and c.from_residual.result c.from_residual.ensures.1 in
    let faulty = c.in_err-check_no_comma.ensures.err in
    rw (p.1, p.2)
    (λ words read rest. stopped c.args.self.now words (token_of c.args.word.now ∷ rest) read c.args.word.now.line
    c.args.word.now.column _ _ (rw c.requires.none (comma faulty.0)) faulty.1)

pub returns-then-eq-clause-ok : goal.returns-then-eq-clause-ok
returns-then-eq-clause-ok c words read =
    more_read c.args.self.now _ (token_of c.args.word.now) words read c.requires.none c.requires.none
    (rw (c.requires.line, c.requires.part) (semicolon_more (token_of c.args.word.now) c.args.word.now.line refl _ _ _ _
    (rw c.requires.line at read.are_nodes)
    (text_is _ c.as_slice.result.now _ c.as_slice.ensures c.if-eq.ensures)))

pub returns-in_default-clause-err : goal.returns-in_default-clause-err
returns-in_default-clause-err c words read rest =
    stopped c.args.self.now words (token_of c.args.word.now ∷ rest) read c.args.word.now.line
    c.args.word.now.column _ _ (rw c.requires.none (no_part c.requires.line c.requires.part (
      c.in_ok-check_no_comma.ensures.ok,
      text_isnt _ c.as_slice.result.now _ c.as_slice.ensures c.if-eq.ensures,
      rw c.in_default.is at c.kind_of.ensures.none,
    ))) c.unexpected.ensures

pub returns-clause-ok : goal.returns-clause-ok
returns-clause-ok c words read =
    more_read c.args.self.now _ (token_of c.args.word.now) words read c.requires.none c.requires.none
    (rw c.requires.line (key_more (token_of c.args.word.now) c.args.word.now.line refl c.in-Some.kind _ _ _
    (rw (c.requires.line, c.requires.part) at read.are_nodes) c.in-Some.ensures.some))
