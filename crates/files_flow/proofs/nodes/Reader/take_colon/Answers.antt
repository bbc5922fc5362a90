use Rattle.std.proofs.Common.{◌∷◌, sym, refl, true, false}
use Rattle.std.proofs.lemmas.Result.{err_from_is_err_and}
use Rattle.files_text.specs.Words.{token_of}
use Rattle.files_flow.specs.NodeFaults.{LineEnds}
use Rattle.files_flow.specs.NodeFaults.IsFaulty.{alone, comma_after, no_colon}
use Rattle.files_flow.proofs.NodeLemmas.{colon_read, flipped, stopped, text_is, text_isnt}
use Rattle.files_flow.proofs.nodes.Reader.take_colon.Goals as goal

pub returns-then-name-word-clause-err : goal.returns-then-name-word-clause-err
returns-then-name-word-clause-err c words read rest =
    let fresh = rw c.requires at read.fresh in
    let ends : LineEnds c.args.name.now.line (token_of c.args.word.now ∷ rest) = (λ same. c.if-name-word.true (sym same)) in
    stopped c.args.self.now words (token_of c.args.word.now ∷ rest) read c.args.name.now.line
    c.end.result _ c.no_colon.result
    (rw (c.requires, c.end.ensures) (alone fresh ends)) c.no_colon.ensures

pub returns-in_err-check_no_comma-clause-err : goal.returns-in_err-check_no_comma-clause-err
returns-in_err-check_no_comma-clause-err c =
    let p = err_from_is_err_and c.from_residual.result c.from_residual.ensures.1 in
    let faulty = c.in_err-check_no_comma.ensures.err in
    rw (p.1, p.2)
    (λ words read rest. let fresh = rw c.requires at read.fresh in
    stopped c.args.self.now words (token_of c.args.word.now ∷ rest) read c.args.word.now.line
    c.args.word.now.column _ _ (rw c.requires (comma_after fresh c.if-name-word.false faulty.0)) faulty.1)

pub returns-then-ne-clause-err : goal.returns-then-ne-clause-err
returns-then-ne-clause-err c words read rest =
    let fresh = rw c.requires at read.fresh in
    stopped c.args.self.now words (token_of c.args.word.now ∷ rest) read c.args.word.now.line
    c.args.word.now.column _ _ (rw c.requires (no_colon fresh c.if-name-word.false c.in_ok-check_no_comma.ensures.ok
    (text_isnt _ c.as_slice.result.now _ c.as_slice.ensures (flipped _ true c.if-ne.ensures)))) c.no_colon-then-ne.ensures

pub returns-clause-ok : goal.returns-clause-ok
returns-clause-ok c words read =
    colon_read c.args.self.now _ c.args.name.now c.args.word.now _ c.in_ok-number.ensures refl refl refl refl c.requires
    c.if-name-word.false
    (text_is _ c.as_slice.result.now _ c.as_slice.ensures (flipped _ false c.if-ne.ensures)) words read
