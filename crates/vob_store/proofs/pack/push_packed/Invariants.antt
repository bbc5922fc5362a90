-- The old blocks and the whole packing are what is pushed and the packing of what is left.
use Rattle.std.proofs.Common.{◌≡◌, ◌++◌, length, map}
use Rattle.std.specs.Prelude.{vec_capacity}
use Rattle.vob_block.specs.Packing.{packing}
use Rattle.vob_store.proofs.pack.push_packed.Given as goal

abbrev pub invariant-loop-rest : goal.invariant-loop-rest
invariant-loop-rest g l = record {
  packed : map g.T.BitBlock.number l.blocks.items ++ packing l.rest g.T.BitBlock.BITS
      ≡ map g.T.BitBlock.number l.fn.blocks.items ++ packing l.fn.bits g.T.BitBlock.BITS;
  capacity : vec_capacity l.blocks ≡ vec_capacity l.fn.blocks;
}

abbrev pub decreases-loop-rest : goal.decreases-loop-rest
decreases-loop-rest g l = length l.rest
