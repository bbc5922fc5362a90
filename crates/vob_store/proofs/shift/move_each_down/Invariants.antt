-- The blocks so far are moved, and those behind them are as they were.
use Rattle.std.proofs.Common.{◌≡◌, ℕ, ◌+◌, ◌*◌, ◌≤◌, map, get_or}
use Rattle.vob_store.specs.Copying.{AreCopied}
use Rattle.vob_store.proofs.shift.move_each_down.Given as goal

abbrev pub invariant-loop-k : goal.invariant-loop-k
invariant-loop-k g l = record {
  moved : AreCopied g.T.BitBlock.BITS (l.first * g.T.BitBlock.BITS)
      (l.from * g.T.BitBlock.BITS + l.places) (l.k * g.T.BitBlock.BITS)
      (map g.T.BitBlock.number l.fn.own) (map g.T.BitBlock.number l.fn.own)
      (map g.T.BitBlock.number l.own);
  rest : (i : ℕ) → l.first + l.k ≤ i → get_or (map g.T.BitBlock.number l.own) i 0
      ≡ get_or (map g.T.BitBlock.number l.fn.own) i 0;
}
