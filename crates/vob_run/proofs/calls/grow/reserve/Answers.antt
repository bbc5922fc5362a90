-- The Vob has the room, or is as it was.
use Rattle.std.proofs.Common.{◌≡◌, ◌+◌, Result, Ok, Err, OnOk, OnErr, length, set, refl, sym, ◌∙◌, inl}
use Rattle.vob.specs.declared.error.VobError.{VobError}
use Rattle.vob_run.specs.Call.{Reserve}
use Rattle.vob_run.specs.Run.{lists}
use Rattle.vob_run.proofs.StepLemmas.{lent, list_at, lists-set, lists-same, no_list}
use Rattle.vob_run.proofs.GrowLemmas.{asked_step}
use Rattle.vob_run.proofs.calls.grow.reserve.Goals as goal

-- what holds anyhow, holds of either result
either : (P : Type 0) (result : Result Unit VobError) → P → OnOk result P × OnErr result P
either P (Ok u) holds = (holds, tt)
either P (Err refusal) holds = (tt, holds)

pub returns-in_default : goal.returns-in_default
returns-in_default g c =
    let past = c.in_default.ensures.item.3 in
    inl (rw (no_list c.args.vobs.now.items c.args.which past) refl)

pub returns : goal.returns
returns g c =
    let item = c.in-Some.ensures.item in
    let vob = lent c.args.vobs.now.items c.args.which c.in-Some.vob.now item.3.0 item.1 in
    let items = c.args.vobs.now.items in
    let old = c.in-Some.vob.now in
    let call = c.reserve.ensures in
    let reply = c.reply_to.ensures in
    let same = either (c.reserve.new.self.bits ≡ old.bits) c.reserve.result call.bits in
    let kept : set (lists items) c.args.which old.bits ≡ lists items =
    sym (lists-set items c.args.which old) ∙ lists-same vob old refl in
    asked_step g.T.BitBlock.BITS _ _ _ vob (Reserve c.args.which c.args.additional)
    (length old.bits + c.args.additional)
    (record {
      told = reply.ok;
      refusal = reply.err;
      ok = same.0;
      err = same.1;
      past_end = call.refused.past_end;
    })
    (rw (list_at vob, kept) refl) call.refused.too_long
    (λ e. rw (list_at vob) (call.refused.memory e).1)
