-- The Vob behind the others has the bits of the one with this number.
use Rattle.std.proofs.Common.{arith, inl, refl}
use Rattle.vob_run.specs.Call.{Copy}
use Rattle.vob_run.proofs.StepLemmas.{lent, list_at, no_list}
use Rattle.vob_run.proofs.MakeLemmas.{Makes, made_step}
use Rattle.vob_run.proofs.calls.make.copy.Goals as goal

pub returns-then-which-len : goal.returns-then-which-len
returns-then-which-len g c =
    inl (rw (no_list c.args.vobs.now.items c.args.which (omega arith)) refl)

pub returns : goal.returns
returns g c =
    let items = c.args.vobs.now.items in
    let which = c.args.which in
    let old = c.index.result.now in
    let vob = lent items which old (omega arith) c.index.ensures in
    let makes : Makes g.T.BitBlock.BITS items (Copy which) old.bits =
    record { is = rw (list_at vob) refl; takes = tt } in
    made_step makes c.clone-copy.result _ c.made.new.vobs.items c.clone-copy.ensures.bits
    c.made.ensures.ok c.made.ensures.err
