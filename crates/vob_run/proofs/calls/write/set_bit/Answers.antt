-- The Vob with this number has the bit, and whether it changed is told; or it has no such bit.
use Rattle.std.proofs.Common.{arith, refl, inl}
use Rattle.vob_run.specs.Call.{SetBit}
use Rattle.vob_run.proofs.StepLemmas.{lent, written_past, written_inside, no_list}
use Rattle.vob_run.proofs.calls.write.set_bit.Goals as goal

pub returns-in_default : goal.returns-in_default
returns-in_default g c =
    let past = c.in_default.ensures.item.3 in
    inl (rw (no_list c.args.vobs.now.items c.args.which past) refl)

pub returns-then-index-len : goal.returns-then-index-len
returns-then-index-len g c =
    let item = c.in-Some.ensures.item in
    let vob = lent c.args.vobs.now.items c.args.which c.in-Some.vob.now item.3.0 item.1 in
    let call = SetBit c.args.which c.args.index c.args.value in
    written_past g.T.BitBlock.BITS _ _ c.args.index c.args.value _ vob call refl (omega arith)

pub returns : goal.returns
returns g c =
    let item = c.in-Some.ensures.item in
    let vob = lent c.args.vobs.now.items c.args.which c.in-Some.vob.now item.3.0 item.1 in
    let call = SetBit c.args.which c.args.index c.args.value in
    let set = c.set.ensures in
    written_inside g.T.BitBlock.BITS _ _ c.args.index c.args.value _ vob call refl (omega arith)
    c.set.new.self c.set.result set.bits set.changed
