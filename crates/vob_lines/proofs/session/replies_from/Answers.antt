-- What ended the reading ends the conversation.
use Rattle.std.proofs.lemmas.Result.{err_from_is_err_and, IfOk-weaker, IfErr-weaker}
use Rattle.vob_lines.proofs.SessionLemmas.{stops}
use Rattle.vob_lines.proofs.session.replies_from.Goals as goal

pub returns-in_err-text-clause-err : goal.returns-in_err-text-clause-err
returns-in_err-text-clause-err g c =
    let p = err_from_is_err_and c.from_residual.result c.from_residual.ensures.1 in
    rw (p.1, p.2) c.in_err-text.ensures.err

pub returns-clause-ok : goal.returns-clause-ok
returns-clause-ok g c =
    IfOk-weaker c.replies_to.result _ _
    (λ replies answers. (
      c.in_ok-text.text.items,
      c.in_ok-text.ensures.ok,
      rw c.deref.ensures.value at answers,
    )) c.replies_to.ensures.ok

pub returns-clause-err : goal.returns-clause-err
returns-clause-err g c =
    IfErr-weaker c.replies_to.result _ _
    (λ ending ends. (
      c.in_ok-text.text.items,
      c.in_ok-text.ensures.ok,
      stops c.in_ok-text.text.items ending (rw c.deref.ensures.value at ends),
    )) c.replies_to.ensures.err
