-- The indices are told.
use Rattle.std.proofs.Common.{refl, inl}
use Rattle.vob_walk.specs.Matches.{matches}
use Rattle.vob_walk.specs.Walk.{answers}
use Rattle.vob_run.specs.Answer.{dealt}
use Rattle.vob_run.specs.Call.{Walk}
use Rattle.vob_run.specs.Run.{lists}
use Rattle.vob_run.proofs.StepLemmas.{lent, list_at, no_list, refused_telling}
use Rattle.vob_run.proofs.calls.walk.walk.Goals as goal

pub returns-in_default : goal.returns-in_default
returns-in_default g c =
    let past = c.in_default.ensures.lookup.3 in
    inl (rw (no_list c.args.vobs.now c.args.which past) refl)

pub returns-in-Ok : goal.returns-in-Ok
returns-in-Ok g c =
    let found = c.in-Some.ensures.lookup in
    let vob = lent c.args.vobs.now c.args.which c.in-Some.vob.now found.3.0 found.1 in
    inl (rw (list_at vob, c.in-Ok.ensures) refl)

pub returns-in-Err : goal.returns-in-Err
returns-in-Err g c =
    let found = c.in-Some.ensures.lookup in
    let old = c.in-Some.vob.now in
    let value = c.args.selection.value in
    let bounds = c.args.selection.bounds in
    let pulls = c.args.pulls.now in
    let vob = lent c.args.vobs.now c.args.which old found.3.0 found.1 in
    let told = answers (matches old.bits value bounds.0 bounds.1) pulls in
    rw (c.refused.ensures, c.from.ensures)
    (refused_telling g.T.BitBlock.BITS (lists c.args.vobs.now)
    (Walk c.args.which value bounds.0 bounds.1 pulls) (dealt told) (rw (list_at vob) refl)
    ((λ e. cc), (λ e. cc), (λ e. cc)) tt)
