-- The Vob with this number has the bit, or is as it was.
use Rattle.std.proofs.Common.{◌+◌, length, refl, inl}
use Rattle.vob_run.specs.Call.{Push}
use Rattle.vob_run.proofs.StepLemmas.{lent, list_at, no_list}
use Rattle.vob_run.proofs.GrowLemmas.{asked_step, step-push}
use Rattle.vob_run.proofs.calls.write.push.Goals as goal

pub returns-in_default : goal.returns-in_default
returns-in_default g c =
    let past = c.in_default.ensures.item.3 in
    inl (rw (no_list c.args.vobs.now.items c.args.which past) refl)

pub returns : goal.returns
returns g c =
    let width = g.T.BitBlock.BITS in
    let item = c.in-Some.ensures.item in
    let vob = lent c.args.vobs.now.items c.args.which c.in-Some.vob.now item.3.0 item.1 in
    let bits = c.in-Some.vob.now.bits in
    let call = Push c.args.which c.args.value in
    let push = c.push.ensures in
    let reply = c.reply_to.ensures in
    asked_step width _ _ _ vob call (length bits + 1)
    (record {
      told = reply.ok;
      refusal = reply.err;
      ok = push.ok;
      err = push.err;
      past_end = push.refused.past_end;
    })
    (step-push width vob c.args.value) push.refused.too_long
    (λ e. rw (list_at vob) (push.refused.memory e).1)
