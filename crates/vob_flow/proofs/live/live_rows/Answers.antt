-- The first node with a fault is named, and none where there is none.
use Rattle.std.proofs.lemmas.Result.{err_from_is_err_and}
use Rattle.vob_flow.proofs.FlowLemmas.{not_variable, not_next, refuses_variable, refuses_next}
use Rattle.vob_flow.proofs.live.live_rows.Goals as goal

pub returns-in_err-check_nodes-clause-bad_variable : goal.returns-in_err-check_nodes-clause-bad_variable
returns-in_err-check_nodes-clause-bad_variable c =
    let p = err_from_is_err_and c.from_residual.result c.from_residual.ensures.1 in
    rw (p.1, p.2) (refuses_variable _ _ _ c.in_err-check_nodes.ensures.err)

pub returns-in_err-check_nodes-clause-bad_next : goal.returns-in_err-check_nodes-clause-bad_next
returns-in_err-check_nodes-clause-bad_next c =
    let p = err_from_is_err_and c.from_residual.result c.from_residual.ensures.1 in
    rw (p.1, p.2) (refuses_next _ _ _ c.in_err-check_nodes.ensures.err)

pub returns-in_err-live-clause-bad_variable : goal.returns-in_err-live-clause-bad_variable
returns-in_err-live-clause-bad_variable c =
    let refused = c.from_residual-in_err-live in
    let p = err_from_is_err_and refused.result refused.ensures.1 in
    rw (p.1, p.2) (not_variable _ _ c.in_ok-check_nodes.ensures.ok (λ n e. cc))

pub returns-in_err-live-clause-bad_next : goal.returns-in_err-live-clause-bad_next
returns-in_err-live-clause-bad_next c =
    let refused = c.from_residual-in_err-live in
    let p = err_from_is_err_and refused.result refused.ensures.1 in
    rw (p.1, p.2) (not_next _ _ c.in_ok-check_nodes.ensures.ok (λ n e. cc))

pub returns-clause-bad_variable : goal.returns-clause-bad_variable
returns-clause-bad_variable c = not_variable _ _ c.in_ok-check_nodes.ensures.ok (λ n e. cc)

pub returns-clause-bad_next : goal.returns-clause-bad_next
returns-clause-bad_next c = not_next _ _ c.in_ok-check_nodes.ensures.ok (λ n e. cc)
