-- The blocks so far are moved.
use Rattle.std.proofs.Common.{◌+◌, ◌*◌, map}
use Rattle.vob_store.specs.Copying.{AreCopied}
use Rattle.vob_store.proofs.shift.move_eight.Given as goal

abbrev pub invariant-loop-j : goal.invariant-loop-j
invariant-loop-j g l = AreCopied g.T.BitBlock.BITS (l.first * g.T.BitBlock.BITS)
    (l.from * g.T.BitBlock.BITS + l.places) (l.j * g.T.BitBlock.BITS)
    (map g.T.BitBlock.number l.fn.own) (map g.T.BitBlock.number l.fn.own)
    (map g.T.BitBlock.number l.own)
