-- The blocks so far are moved.
use Rattle.std.proofs.Common.{◌+◌, ◌-◌, ◌*◌, map}
use Rattle.vob_store.specs.Copying.{AreCopied}
use Rattle.vob_store.proofs.shift.move_eights_up.Given as goal

abbrev pub invariant-loop-done : goal.invariant-loop-done
invariant-loop-done g l = AreCopied g.T.BitBlock.BITS
    ((l.first + (l.turns - l.done) * 8) * g.T.BitBlock.BITS)
    ((l.from + (l.turns - l.done) * 8) * g.T.BitBlock.BITS + l.places)
    (l.done * 8 * g.T.BitBlock.BITS) (map g.T.BitBlock.number l.fn.own)
    (map g.T.BitBlock.number l.fn.own) (map g.T.BitBlock.number l.own)
