-- Each token is next behind those before it.
use Rattle.std.proofs.lemmas.Result.{err_from_is_err_and}
use Rattle.files_dot.specs.Tokens.AreTokens.{no_token}
use Rattle.files_dot.proofs.TokenLemmas.{token_fault, tokens_end, tokens_more}
use Rattle.files_dot.proofs.tokens.dot_tokens.Goals as goal

pub tokens-init : goal.tokens-init
tokens-init c = rw c.new-tokens.ensures.items no_token

pub returns-in_err-token-clause-err : goal.returns-in_err-token-clause-err
returns-in_err-token-clause-err c =
    let p = err_from_is_err_and c.from_residual.result c.from_residual.ensures.1 in
    rw (p.1, p.2)
    (token_fault c.args.text.now c.tokens.tokens.items c.tokens.invariant c.in_err-token.ensures.err)

pub tokens-preserved : goal.tokens-preserved
tokens-preserved c =
    let found = rw c.in-Some.is at c.in_ok-token.ensures.ok in
    tokens_more c.args.text.now c.tokens.tokens.items c.tokens.invariant c.in-Some.token _ found.0
    c.in_ok-push.ensures.items

pub returns-clause-ok : goal.returns-clause-ok
returns-clause-ok c =
    let found = rw c.in_default.is at c.in_ok-token.ensures.ok in
    tokens_end c.args.text.now c.tokens.tokens.items c.tokens.invariant found.0 found.1
