-- The Vob behind the others is empty.
use Rattle.std.proofs.Common.{[], refl}
use Rattle.vob_run.specs.Call.{New}
use Rattle.vob_run.proofs.MakeLemmas.{Makes, made_step}
use Rattle.vob_run.proofs.calls.make.new.Goals as goal

pub returns : goal.returns
returns g c =
    let items = c.args.vobs.now.items in
    let makes : Makes g.T.BitBlock.BITS items (New c.args.capacity) [] =
    record { is = refl; takes = tt } in
    made_step makes c.new_with_storage_type.result _ c.made.new.vobs.items
    c.new_with_storage_type.ensures.empty c.made.ensures.ok c.made.ensures.err
