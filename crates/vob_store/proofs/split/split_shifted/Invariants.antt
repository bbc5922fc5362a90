-- The blocks so far hold the bits from place `from` on.
use Rattle.std.proofs.Common.{◌+◌, map}
use Rattle.vob_block.specs.Packing.{bit_at}
use Rattle.vob_store.specs.Building.{AreBuilt}
use Rattle.vob_store.proofs.split.split_shifted.Given as goal

abbrev pub invariant-loop-k : goal.invariant-loop-k
invariant-loop-k g l = AreBuilt g.T.BitBlock.BITS l.k (map g.T.BitBlock.number l.rest)
    (λ i. bit_at (map g.T.BitBlock.number l.fn.blocks) g.T.BitBlock.BITS (l.from + i))
