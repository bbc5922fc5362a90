-- The bit is told, or that there is none.
use Rattle.std.proofs.Common.{refl, inl}
use Rattle.vob_run.proofs.StepLemmas.{lent, list_at, no_list}
use Rattle.vob_run.proofs.calls.read.get_bit.Goals as goal

pub returns-in-Some : goal.returns-in-Some
returns-in-Some g c =
    let found = c.in-Some.ensures.lookup in
    let vob = lent c.args.vobs.now c.args.which c.in-Some.vob.now found.3.0 found.1 in
    inl (rw (list_at vob, c.get-in-Some.ensures.bit) refl)

pub returns-in-None : goal.returns-in-None
returns-in-None g c =
    let past = c.in-None.ensures.lookup.3 in
    inl (rw (no_list c.args.vobs.now c.args.which past) refl)
