-- The next word is a token, or the first that is none.
use Rattle.std.proofs.lemmas.Result.{err_from_is_err_and}
use Rattle.files_text.specs.Words.{token_of}
use Rattle.files_parse.proofs.TokenLemmas.{no_word, take_next, tokens_more, unknown}
use Rattle.files_parse.proofs.tokens.tokens_of.Goals as goal

pub loop-word-init : goal.loop-word-init
loop-word-init c = rw c.in_ok-tokens.ensures.items tt

pub loop-word-preserved : goal.loop-word-preserved
loop-word-preserved c =
    let more = take_next token_of c.args.words.now c.loop-word.word-index no_word c.loop-word-test.true in
    rw (more, c.in_ok-push.ensures.items)
    (tokens_more c.args.file.now.names _ _ _ _ c.loop-word.invariant
    (rw c.in_ok-terminals.ensures at c.in_ok-token_of.ensures.ok))

pub returns-in_err-token_of-clause-err : goal.returns-in_err-token_of-clause-err
returns-in_err-token_of-clause-err c =
    let p = err_from_is_err_and c.from_residual-in_err-token_of.result c.from_residual-in_err-token_of.ensures.1 in
    let fails = rw c.in_ok-terminals.ensures at c.in_err-token_of.ensures.none in
    rw (p.1, p.2)
    (unknown c.args.file.now.names c.args.words.now c.loop-word.word-index no_word _ c.loop-word-test.true
    c.loop-word.invariant fails _ c.in_err-token_of.ensures.err)
