-- The Vob behind the others has this bit so often.
use Rattle.std.proofs.Common.{replicate, refl}
use Rattle.vob_run.specs.Call.{FromElem}
use Rattle.vob_run.proofs.MakeLemmas.{Makes, made_step}
use Rattle.vob_run.proofs.calls.make.from_elem.Goals as goal

pub returns : goal.returns
returns g c =
    let items = c.args.vobs.now.items in
    let len = c.args.len in
    let value = c.args.value in
    let makes : Makes g.T.BitBlock.BITS items (FromElem value len) (replicate len value) =
    record { is = refl; takes = tt } in
    made_step makes c.from_elem_with_storage_type.result _ c.made.new.vobs.items
    c.from_elem_with_storage_type.ensures.bits c.made.ensures.ok c.made.ensures.err
