-- Those behind the blocks so far are as they were.
use Rattle.std.proofs.Common.{◌≡◌, ◌+◌, ◌*◌, zero-mul, arith}
use Rattle.vob_store.proofs.CopyLemmas.{AreCopied-nothing, AreCopied-blocks_down}
use Rattle.vob_store.proofs.shift.move_eights_down.Goals as goal

pub loop-turn-init : goal.loop-turn-init
loop-turn-init g c = AreCopied-nothing _ _ _ _ _ (zero-mul g.T.BitBlock.BITS)

pub loop-turn-preserved : goal.loop-turn-preserved
loop-turn-preserved g c =
    let turn = c.loop-turn.turn in
    let next : (turn + 1) * 8 ≡ turn * 8 + 8 = omega arith in
    rw next (AreCopied-blocks_down _ c.args.first c.args.from c.args.places (turn * 8) 8
    c.requires.order c.loop-turn.invariant c.move_eight.ensures)
