use Rattle.std.proofs.Common.{◌∷◌, ◌++◌, [], refl}
use Rattle.std.proofs.lemmas.Result.{err_from_is_err_and}
use Rattle.std.proofs.lemmas.List.{append_assoc, append-nil}
use Rattle.files_text.specs.Words.{token_of}
use Rattle.files_flow.proofs.NodeLemmas.{nothing_read, unread}
use Rattle.files_flow.proofs.nodes.read_nodes.Goals as goal

pub words-init : goal.words-init
words-init c = ([], nothing_read _ c.new.ensures c.new-2.ensures.items refl refl refl, λ rest left. left)

pub words-preserved : goal.words-preserved
words-preserved c =
    let before = c.words.invariant in (
      before.0 ++ token_of c.in-Some.word ∷ [],
      c.in_ok-take.ensures.ok before.0 before.1,
      λ rest left.
          rw (append_assoc before.0 (token_of c.in-Some.word ∷ []) rest)
          (before.2 (token_of c.in-Some.word ∷ rest) (c.in-Some.ensures.some rest left)),
    )

pub returns-in_err-take-clause-err : goal.returns-in_err-take-clause-err
returns-in_err-take-clause-err c =
    let p = err_from_is_err_and c.from_residual.result c.from_residual.ensures.1 in
    let before = c.words.invariant in
    rw (p.1, p.2)
    (unread c.args.text.now before.0 c.next.new.self (token_of c.in-Some.word)
    (λ after left. rw c.new-words.ensures at
    (before.2 (token_of c.in-Some.word ∷ after) (c.in-Some.ensures.some after left))) _
    (λ after. c.in_err-take.ensures.err before.0 before.1 after))

pub returns-in_err-finish-clause-err : goal.returns-in_err-finish-clause-err
returns-in_err-finish-clause-err c =
    let p = err_from_is_err_and c.from_residual-in_err-finish.result c.from_residual-in_err-finish.ensures.1 in
    let before = c.words.invariant in
    let all = rw (append-nil before.0) at (before.2 [] (rw c.in_default.is at c.next.ensures.none)) in
    rw (p.1, p.2) (before.0, rw c.new-words.ensures at all, c.in_err-finish.ensures.err before.0 before.1)
