-- Those before the blocks so far are as they were.
use Rattle.std.proofs.Common.{◌≡◌, ◌+◌, ◌-◌, ◌*◌, zero-mul, arith}
use Rattle.vob_store.proofs.CopyLemmas.{AreCopied-nothing, AreCopied-blocks_up}
use Rattle.vob_store.proofs.shift.move_eights_up.Goals as goal

pub loop-done-init : goal.loop-done-init
loop-done-init g c = AreCopied-nothing _ _ _ _ _ (zero-mul g.T.BitBlock.BITS)

pub loop-done-preserved : goal.loop-done-preserved
loop-done-preserved g c =
    let done = c.loop-done.done in
    let turn = c.args.turns - 1 - done in
    let first = c.args.first + turn * 8 in
    let from = c.args.from + turn * 8 in
    let at : c.args.first + (c.args.turns - done) * 8 ≡ first + 8 = omega arith in
    let source : c.args.from + (c.args.turns - done) * 8 ≡ from + 8 = omega arith in
    let left : c.args.turns - (done + 1) ≡ turn = omega arith in
    let next : (done + 1) * 8 ≡ 8 + done * 8 = omega arith in
    rw (next, left) (AreCopied-blocks_up _ first from c.args.places 8 (done * 8)
    (omega (arith, c.requires.order)) c.requires.below (rw (at, source) at c.loop-done.invariant)
    c.move_eight.ensures)
