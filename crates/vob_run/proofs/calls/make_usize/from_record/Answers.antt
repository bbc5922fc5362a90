-- The copy of the blocks is taken where it is canonical.
use Rattle.std.proofs.Common.{refl, arith}
use Rattle.vob_run.specs.Call.{FromRecord}
use Rattle.vob_run.proofs.RawLemmas.{taken_step}
use Rattle.vob_run.proofs.calls.make_usize.from_record.Goals as goal

pub returns-in-Ok : goal.returns-in-Ok
returns-in-Ok c =
    let items = c.args.vobs.now.items in
    let blocks = c.args.blocks.now in
    let canonical = rw c.in-Ok.ensures at c.into_vob.ensures.taken in
    let bits = rw c.in-Ok.ensures at c.into_vob.ensures.bits in
    taken_step 64 (omega arith) items (FromRecord c.args.len blocks) c.args.len blocks refl tt
    c.into_vob.result _ c.taken.new.vobs.items canonical bits c.taken.ensures.ok
    c.taken.ensures.err
