-- The words are those of the text, and they were read one after another.
use Rattle.std.proofs.Common.{map, sym}
use Rattle.std.proofs.lemmas.Result.{err_from_is_err_and}
use Rattle.files_condition.specs.Conditions.{test_of, tree_of}
use Rattle.files_condition.specs.States.{state_of}
use Rattle.files_condition.specs.Words.{AreWordsOf, token_of}
use Rattle.files_condition.proofs.TextLemmas.{end_fault, is_condition, run_more, when_err, when_ok, word_fault}
use Rattle.files_condition.proofs.condition.read_condition.Goals as goal

pub returns-in_err-next-clause-err : goal.returns-in_err-next-clause-err
returns-in_err-next-clause-err c =
    let p = err_from_is_err_and c.from_residual-in_err-next.result c.from_residual-in_err-next.ensures.1 in
    let items = c.deref-word-items.result.now in
    let are : AreWordsOf c.args.text.now (map token_of items) =
    rw (c.deref-word-items.ensures.value, sym c.as_bytes.ensures.value) c.in_ok-words.ensures.ok in
    rw (p.1, p.2)
    (word_fault c.args.text.now items are (state_of c.words.next c.words.reader) c.words.word-index _
    c.words-test.true c.words.invariant _ c.in_err-next.ensures.err)

pub words-preserved : goal.words-preserved
words-preserved c =
    let items = c.deref-word-items.result.now in
    let are : AreWordsOf c.args.text.now (map token_of items) =
    rw (c.deref-word-items.ensures.value, sym c.as_bytes.ensures.value) c.in_ok-words.ensures.ok in
    run_more c.args.text.now items are (state_of c.words.next c.words.reader) c.words.word-index _
    c.words-test.true c.words.invariant _ c.in_ok-next.ensures.ok

pub returns-clause-ok : goal.returns-clause-ok
returns-clause-ok c =
    let items = c.deref-word-items.result.now in
    let are : AreWordsOf c.args.text.now (map token_of items) =
    rw (c.deref-word-items.ensures.value, sym c.as_bytes.ensures.value) c.in_ok-words.ensures.ok in
    when_ok c.finish.result _ _
    (λ condition is. is_condition c.args.text.now items are (state_of c.words.next c.words.reader) c.words.word-index
    c.words-test.false c.words.invariant (map test_of condition.comparisons.items) (tree_of condition.expression) is)
    c.finish.ensures.ok

pub returns-clause-err : goal.returns-clause-err
returns-clause-err c =
    let items = c.deref-word-items.result.now in
    let are : AreWordsOf c.args.text.now (map token_of items) =
    rw (c.deref-word-items.ensures.value, sym c.as_bytes.ensures.value) c.in_ok-words.ensures.ok in
    when_err c.finish.result _ _
    (λ fault is. end_fault c.args.text.now items are (state_of c.words.next c.words.reader) c.words.word-index
    c.words-test.false c.words.invariant fault is)
    c.finish.ensures.err
