-- The blocks so far are changed, and what was gathered is 0 exactly where they are as they were.
use Rattle.std.proofs.Common.{◌≡◌, ◌↔◌, ◌*◌, ◌^◌, ◌<◌, map}
use Rattle.vob_store.specs.Range.{HaveSameBits, IsRanged}
use Rattle.vob_store.proofs.range.change_blocks.Given as goal

abbrev pub invariant-loop-k : goal.invariant-loop-k
invariant-loop-k g l = record {
  ranged : IsRanged g.T.BitBlock.BITS g.C.Change.of_bit (l.fn.from * g.T.BitBlock.BITS)
      (l.k * g.T.BitBlock.BITS) (map g.T.BitBlock.number l.fn.blocks) (map g.T.BitBlock.number l.blocks);
  small : g.T.BitBlock.number l.changed < 2 ^ g.T.BitBlock.BITS;
  flag : (g.T.BitBlock.number l.changed ≡ 0) ↔ HaveSameBits g.T.BitBlock.BITS
      (map g.T.BitBlock.number l.fn.blocks) (map g.T.BitBlock.number l.blocks);
}
