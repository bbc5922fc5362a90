-- The blocks so far are moved, and those before them are as they were.
use Rattle.std.proofs.Common.{◌≡◌, ℕ, ◌+◌, ◌-◌, ◌*◌, ◌<◌, map, get_or}
use Rattle.vob_store.specs.Copying.{AreCopied}
use Rattle.vob_store.proofs.shift.move_each_up.Given as goal

abbrev pub invariant-loop-done : goal.invariant-loop-done
invariant-loop-done g l = record {
  moved : AreCopied g.T.BitBlock.BITS ((l.first + (l.count - l.done)) * g.T.BitBlock.BITS)
      (l.from * g.T.BitBlock.BITS + l.places + (l.count - l.done) * g.T.BitBlock.BITS)
      (l.done * g.T.BitBlock.BITS) (map g.T.BitBlock.number l.fn.own)
      (map g.T.BitBlock.number l.fn.own) (map g.T.BitBlock.number l.own);
  rest : (i : ℕ) → i < l.first + (l.count - l.done) → get_or (map g.T.BitBlock.number l.own) i 0
      ≡ get_or (map g.T.BitBlock.number l.fn.own) i 0;
}
