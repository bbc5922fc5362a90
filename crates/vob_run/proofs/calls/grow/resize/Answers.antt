-- The Vob with this number has that many bits, or is as it was; no length is too long for it.
use Rattle.std.proofs.Common.{arith, ◌≡◌, ◌↔◌, ◌^◌, ◌-◌, ◌<◌, Err, refl, inl}
use Rattle.vob.specs.declared.error.VobError.TheVariants.{TooLong}
use Rattle.vob_run.specs.Call.{Resize}
use Rattle.vob_run.proofs.StepLemmas.{lent, list_at, no_list}
use Rattle.vob_run.proofs.GrowLemmas.{asked_step}
use Rattle.vob_run.proofs.calls.grow.resize.Goals as goal

pub returns-in_default : goal.returns-in_default
returns-in_default g c =
    let past = c.in_default.ensures.item.3 in
    inl (rw (no_list c.args.vobs.now.items c.args.which past) refl)

pub returns : goal.returns
returns g c =
    let item = c.in-Some.ensures.item in
    let vob = lent c.args.vobs.now.items c.args.which c.in-Some.vob.now item.3.0 item.1 in
    let call = c.resize.ensures in
    let memory = call.memory in
    let reply = c.reply_to.ensures in
    let long : (c.resize.result ≡ Err TooLong) ↔ (2 ^ 64 - 1 < 0) =
    ((λ e. let wrong = (rw e at memory).0 in cc), (λ e. absurd (omega (arith, e)))) in
    asked_step g.T.BitBlock.BITS _ _ _ vob (Resize c.args.which c.args.len c.args.value) 0
    (record {
      told = reply.ok;
      refusal = reply.err;
      ok = call.ok;
      err = call.err;
      past_end = λ e. let wrong = (rw e at memory).0 in cc;
    })
    (rw (list_at vob) refl) long (λ e. rw (list_at vob) (rw e at memory).2)
