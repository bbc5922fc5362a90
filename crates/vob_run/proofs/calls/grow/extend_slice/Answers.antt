-- The Vob with this number has the bits behind its own, or is as it was.
use Rattle.std.proofs.Common.{refl, inl}
use Rattle.vob_run.specs.Call.{ExtendSlice}
use Rattle.vob_run.proofs.StepLemmas.{lent, no_list}
use Rattle.vob_run.proofs.GrowLemmas.{extended_step}
use Rattle.vob_run.proofs.calls.grow.extend_slice.Goals as goal

pub returns-in_default : goal.returns-in_default
returns-in_default g c =
    let past = c.in_default.ensures.item.3 in
    inl (rw (no_list c.args.vobs.now.items c.args.which past) refl)

pub returns : goal.returns
returns g c =
    let item = c.in-Some.ensures.item in
    let vob = lent c.args.vobs.now.items c.args.which c.in-Some.vob.now item.3.0 item.1 in
    let more = c.deref.result.now in
    let call = c.extend_from_slice.ensures in
    let reply = c.reply_to.ensures in
    rw (← c.deref.ensures.value)
    (extended_step g.T.BitBlock.BITS _ _ _ vob (ExtendSlice c.args.which more) more
    (record {
      told = reply.ok;
      refusal = reply.err;
      ok = call.ok;
      err = call.err;
      past_end = call.refused.past_end;
    })
    refl call.refused.too_long (λ t. t) (λ e. (call.refused.memory e).1))
