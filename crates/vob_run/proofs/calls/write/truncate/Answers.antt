-- The Vob with this number has kept its first bits.
use Rattle.std.proofs.Common.{refl, inl}
use Rattle.vob_run.proofs.StepLemmas.{lent, list_at, lists-set, no_list}
use Rattle.vob_run.proofs.calls.write.truncate.Goals as goal

pub returns-in_default : goal.returns-in_default
returns-in_default g c =
    let past = c.in_default.ensures.item.3 in
    inl (rw (no_list c.args.vobs.now.items c.args.which past) refl)

pub returns : goal.returns
returns g c =
    let item = c.in-Some.ensures.item in
    let vob = lent c.args.vobs.now.items c.args.which c.in-Some.vob.now item.3.0 item.1 in
    inl (rw (list_at vob, lists-set _ _ c.truncate.new.self, c.truncate.ensures.bits) refl)
