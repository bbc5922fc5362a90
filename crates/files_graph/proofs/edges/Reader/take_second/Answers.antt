-- A line of one name is a fault, and so is a comma in place of the second.
use Rattle.std.proofs.Common.{◌∷◌, sym, refl}
use Rattle.std.proofs.lemmas.Result.{err_from_is_err_and}
use Rattle.files_text.specs.Words.{token_of}
use Rattle.files_graph.specs.Edges.{LineEnds}
use Rattle.files_graph.specs.Edges.IsFaulty.{alone, comma_second}
use Rattle.files_graph.proofs.ReadingLemmas.{second_read, stopped}
use Rattle.files_graph.proofs.edges.Reader.take_second.Goals as goal

pub returns-then-from-word-clause-err : goal.returns-then-from-word-clause-err
returns-then-from-word-clause-err c words read rest =
    let fresh = rw c.requires at read.fresh in
    let ends : LineEnds c.args.from.now.line (token_of c.args.word.now ∷ rest) =
    (λ same. c.if-from-word.true (sym same)) in
    stopped c.args.self.now words (token_of c.args.word.now ∷ rest) read _ _ _ c.no_second.result
    (rw c.requires (alone fresh.0 fresh.1 ends)) c.no_second.ensures

pub returns-in_err-check_no_comma-clause-err : goal.returns-in_err-check_no_comma-clause-err
returns-in_err-check_no_comma-clause-err c =
    let p = err_from_is_err_and c.from_residual.result c.from_residual.ensures.1 in
    let comma = c.in_err-check_no_comma.ensures.err in
    rw (p.1, p.2)
    (λ words read rest. let fresh = rw c.requires at read.fresh in
    stopped c.args.self.now words (token_of c.args.word.now ∷ rest) read c.args.word.now.line
    c.args.word.now.column _ _ (rw c.requires (comma_second fresh.0 fresh.1 c.if-from-word.false comma.0)) comma.1)

pub returns-clause-ok : goal.returns-clause-ok
returns-clause-ok c words read =
    second_read c.args.self.now _ c.args.from.now c.args.word.now c.in_ok-node.node c.in_ok-next.next
    c.number.new.self c.in_ok-node.ensures c.in_ok-next.ensures c.in_ok-push.ensures.items c.requires refl refl
    c.if-from-word.false c.in_ok-check_no_comma.ensures.ok words read
