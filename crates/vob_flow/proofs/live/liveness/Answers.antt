-- The same node is refused as in rows, and none where memory runs out for the Vobs.
use Rattle.std.proofs.lemmas.Result.{err_from_is_err_and}
use Rattle.vob_flow.proofs.FlowLemmas.{answers_too, refuses_other, refuses_too}
use Rattle.vob_flow.proofs.live.liveness.Goals as goal

pub returns-in-Err-clause-bad_variable : goal.returns-in-Err-clause-bad_variable
returns-in-Err-clause-bad_variable c = λ n. refuses_too _ _ (c.in-Err.ensures.bad_variable n)

pub returns-in-Err-clause-bad_next : goal.returns-in-Err-clause-bad_next
returns-in-Err-clause-bad_next c = λ n. refuses_too _ _ (c.in-Err.ensures.bad_next n)

pub returns-in_ok-in_vobs-in-Ok-clause-bad_variable :
    goal.returns-in_ok-in_vobs-in-Ok-clause-bad_variable
returns-in_ok-in_vobs-in-Ok-clause-bad_variable c = λ n. answers_too _ _ _ (c.in-Ok.ensures.bad_variable n)

pub returns-in_ok-in_vobs-in-Ok-clause-bad_next : goal.returns-in_ok-in_vobs-in-Ok-clause-bad_next
returns-in_ok-in_vobs-in-Ok-clause-bad_next c = λ n. answers_too _ _ _ (c.in-Ok.ensures.bad_next n)

pub returns-in_err-in_vobs-in-Ok-clause-bad_variable :
    goal.returns-in_err-in_vobs-in-Ok-clause-bad_variable
returns-in_err-in_vobs-in-Ok-clause-bad_variable c =
    let p = err_from_is_err_and c.from_residual.result c.from_residual.ensures.1 in
    λ n. rw (p.1, p.2) (refuses_other _ _ _ (c.in-Ok.ensures.bad_variable n) (λ e. cc))

pub returns-in_err-in_vobs-in-Ok-clause-bad_next :
    goal.returns-in_err-in_vobs-in-Ok-clause-bad_next
returns-in_err-in_vobs-in-Ok-clause-bad_next c =
    let p = err_from_is_err_and c.from_residual.result c.from_residual.ensures.1 in
    λ n. rw (p.1, p.2) (refuses_other _ _ _ (c.in-Ok.ensures.bad_next n) (λ e. cc))
