-- A comma in place of the first name is a fault, and so is a third name.
use Rattle.std.proofs.Common.{◌∷◌}
use Rattle.std.proofs.lemmas.Result.{err_from_is_err_and}
use Rattle.files_text.specs.Words.{token_of}
use Rattle.files_graph.specs.Edges.IsFaulty.{comma_first, third}
use Rattle.files_graph.proofs.ReadingLemmas.{line_is, stopped}
use Rattle.files_graph.proofs.edges.Reader.take_first.Goals as goal

pub returns-in_err-check_no_comma-clause-err : goal.returns-in_err-check_no_comma-clause-err
returns-in_err-check_no_comma-clause-err c =
    let p = err_from_is_err_and c.from_residual.result c.from_residual.ensures.1 in
    let comma = c.in_err-check_no_comma.ensures.err in
    rw (p.1, p.2)
    (λ words read rest. stopped c.args.self.now words (token_of c.args.word.now ∷ rest) read c.args.word.now.line
    c.args.word.now.column _ _
    (rw c.requires (comma_first comma.0)) comma.1)

pub returns-then-eq-clause-err : goal.returns-then-eq-clause-err
returns-then-eq-clause-err c words read rest =
    stopped c.args.self.now words (token_of c.args.word.now ∷ rest) read c.args.word.now.line
    c.args.word.now.column _ c.unexpected.result (rw c.requires (third c.in_ok-check_no_comma.ensures.ok (line_is _ _ c.if-eq.ensures))) c.unexpected.ensures
