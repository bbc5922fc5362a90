-- The Vob with the first number has the other's bits behind its own, or is as it was.
use Rattle.std.proofs.Common.{[], ◌+◌, length, refl, inl}
use Rattle.std.proofs.lemmas.Option.{get_or_from_slice_get}
use Rattle.vob_run.specs.Call.{ExtendVob}
use Rattle.vob_run.specs.Run.{lists}
use Rattle.vob_run.proofs.StepLemmas.{list_at}
use Rattle.vob_run.proofs.PairLemmas.{are_lent, lent_back, on_two-found, on_two-missing}
use Rattle.vob_run.proofs.GrowLemmas.{asked_step}
use Rattle.vob_run.proofs.calls.pair.extend_vob.Goals as goal

pub returns-then-not-are_two : goal.returns-then-not-are_two
returns-then-not-are_two g c =
    let items = c.args.vobs.now.items in
    let two = rw c.deref.ensures.value at c.if-not-are_two.ensures in
    let none = on_two-missing items c.args.which c.args.other (λ t. let wrong = two.1 t in cc) _ in
    inl (none)

pub returns : goal.returns
returns g c =
    let items = c.args.vobs.now.items in
    let slice = c.deref_mut.ensures.value in
    let two = c.two_of-vob.ensures in
    let call = c.extend_from_vob.ensures in
    let reply = c.reply_to.ensures in
    let old = c.two_of-vob.result.0.now in
    let more = c.two_of-vob.result.1.now.bits in
    let lent = are_lent items _ slice (c.if-not-are_two.ensures.0 refl).0 two.first two.second in
    let read = get_or_from_slice_get (lists items) c.args.other more [] (list_at lent.second) in
    rw (lent_back lent slice c.args.vobs.now.ok.0 c.extend_from_vob.new.self)
    (asked_step g.T.BitBlock.BITS items c.args.which old lent.first
    (ExtendVob c.args.which c.args.other) (length old.bits + length more)
    (record {
      told = reply.ok;
      refusal = reply.err;
      ok = call.ok;
      err = call.err;
      past_end = call.refused.past_end;
    })
    (on_two-found lent _) call.refused.too_long
    (λ e. rw (list_at lent.first, read) (call.refused.memory e).1))
