-- The tokens were read one after another.
use Rattle.std.proofs.Common.{◌≡◌, arith, false, map, true}
use Rattle.std.proofs.lemmas.Grind.{common_steps}
use Rattle.std.proofs.lemmas.Result.{err_from_is_err_and}
use Rattle.files_dot.specs.Reading.{is_done}
use Rattle.files_dot.specs.States.{next_of, state_of}
use Rattle.files_dot.specs.Tokens.{token_of}
use Rattle.files_dot.proofs.ReadLemmas.{end_fault, ran_all, read_graph, token_fault, token_read}
use Rattle.files_dot.proofs.graph.read_dot.Goals as goal

pub returns-in_err-next-clause-err : goal.returns-in_err-next-clause-err
returns-in_err-next-clause-err c =
    let p = err_from_is_err_and c.from_residual.result c.from_residual.ensures.1 in
    let s = state_of c.tokens.next c.tokens.reader in
    rw (p.1, p.2, ← c.deref-token-items.ensures.value)
    (token_fault c.deref-token-items.result.now s c.tokens.token-index c.token-item.result c.tokens-test.true
    c.token-item.is c.tokens.invariant c.args.text.now.end _ c.in_err-next.ensures.err)

pub tokens-preserved : goal.tokens-preserved
tokens-preserved c =
    token_read c.deref-token-items.result.now (state_of c.tokens.next c.tokens.reader) c.tokens.token-index
    c.token-item.result c.tokens-test.true c.token-item.is c.tokens.invariant _ c.in_ok-next.ensures.ok

pub returns-then-not-is_done-clause-err : goal.returns-then-not-is_done-clause-err
returns-then-not-is_done-clause-err c =
    let items = c.deref-token-items.result.now in
    let s = state_of c.tokens.next c.tokens.reader in
    let undone : is_done (next_of c.tokens.next) ≡ false =
    grind (arith, common_steps, c.is_done.ensures, c.if-not-is_done.true) in
    rw (← c.deref-token-items.ensures.value)
    (end_fault (map token_of items) s (ran_all items s c.tokens.token-index c.tokens-test.false c.tokens.invariant)
    c.args.text.now.end _ _ undone c.unexpected.ensures)

pub returns-clause-ok : goal.returns-clause-ok
returns-clause-ok c =
    let items = c.deref-token-items.result.now in
    let s = state_of c.tokens.next c.tokens.reader in
    let done : is_done (next_of c.tokens.next) ≡ true =
    grind (arith, common_steps, c.is_done.ensures, c.if-not-is_done.false) in
    rw (← c.deref-token-items.ensures.value)
    (read_graph (map token_of items) s (ran_all items s c.tokens.token-index c.tokens-test.false c.tokens.invariant)
    _ _ done c.in_ok-graph.ensures.names c.in_ok-graph.ensures.edges)
