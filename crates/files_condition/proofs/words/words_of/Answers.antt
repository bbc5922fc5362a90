-- Each word is next behind those before it.
use Rattle.std.proofs.Common.{arith, subst, sym, inr}
use Rattle.std.specs.Prelude.{codes}
use Rattle.std.proofs.lemmas.Result.{err_from_is_err_and}
use Rattle.files_condition.specs.Places.{IsLong}
use Rattle.files_condition.proofs.WordsLemmas.{long_fault, unclosed_fault, words_end, words_more, words_start}
use Rattle.files_condition.proofs.words.words_of.Goals as goal

pub words-init : goal.words-init
words-init c = words_start c.args.text.now c.new-words.result.items c.new-words.ensures.items

pub returns-in_err-word-clause-err : goal.returns-in_err-word-clause-err
returns-in_err-word-clause-err c =
    let p = err_from_is_err_and c.from_residual.result c.from_residual.ensures.1 in
    rw (p.1, p.2)
    (unclosed_fault c.args.text.now c.words.words.items c.words.left.at c.words.left.rest.now c.words.invariant _
    c.in_err-word.ensures.err)

pub returns-then-len-ge-MOST_WORDS-clause-err : goal.returns-then-len-ge-MOST_WORDS-clause-err
returns-then-len-ge-MOST_WORDS-clause-err c =
    inr (subst (λ column. IsLong c.args.text.now column (codes "at most 1000 words")) (sym c.column.ensures)
    (long_fault c.args.text.now c.words.words.items c.words.left.at c.words.left.rest.now c.words.invariant
    c.in-Some.word
    _ _ (rw c.in-Some.is at c.in_ok-word.ensures.ok) (omega (arith, c.if-len-ge-MOST_WORDS.true, c.len.ensures))))

pub words-preserved : goal.words-preserved
words-preserved c =
    words_more c.args.text.now c.words.words.items c.words.left.at c.words.left.rest.now c.words.invariant
    c.in-Some.word
    _ _ (rw c.in-Some.is at c.in_ok-word.ensures.ok) _ c.in_ok-push.ensures.items
    (omega (arith, c.if-len-ge-MOST_WORDS.false, c.len.ensures))

pub returns-clause-ok : goal.returns-clause-ok
returns-clause-ok c =
    words_end c.args.text.now c.words.words.items c.words.left.at c.words.left.rest.now c.words.invariant _ _
    (rw c.in_default.is at c.in_ok-word.ensures.ok)
