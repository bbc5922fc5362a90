-- The bit is told, or there is none.
use Rattle.std.proofs.Common.{refl, inl, arith}
use Rattle.std.proofs.lemmas.Option.{slice_get_past}
use Rattle.vob_run.proofs.StepLemmas.{lent, list_at, no_list}
use Rattle.vob_run.proofs.calls.read.index_bit.Goals as goal

pub returns-in_default : goal.returns-in_default
returns-in_default g c =
    let past = c.in_default.ensures.lookup.3 in
    inl (rw (no_list c.args.vobs.now c.args.which past) refl)

pub returns-then-index-len : goal.returns-then-index-len
returns-then-index-len g c =
    let found = c.in-Some.ensures.lookup in
    let old = c.in-Some.vob.now in
    let vob = lent c.args.vobs.now c.args.which old found.3.0 found.1 in
    let past = slice_get_past old.bits c.args.index (omega arith) in
    inl (rw (list_at vob, past) refl)

pub returns : goal.returns
returns g c =
    let found = c.in-Some.ensures.lookup in
    let vob = lent c.args.vobs.now c.args.which c.in-Some.vob.now found.3.0 found.1 in
    inl (rw (list_at vob, c.index.ensures.0) refl)
