-- A pair makes what is read of it, and no more blocks are combined than there are of either.
use Rattle.std.proofs.Common.{arith}
use Rattle.vob_walk.proofs.PairsLemmas.{length-combined, read-combined}
use Rattle.vob_walk.proofs.pairs.PairsSource.read.Goals as goal

pub block-own-requires : goal.block-own-requires
block-own-requires g c =
    let few = length-combined g.T.BitBlock.number g.T.BitBlock.of_bits g.T.BitBlock.BITS
    g.C.Combine.of_bits c.args.self.now.own.items c.args.self.now.other.items in
    omega (arith, c.requires, few.0)

pub block-requires : goal.block-requires
block-requires g c =
    let few = length-combined g.T.BitBlock.number g.T.BitBlock.of_bits g.T.BitBlock.BITS
    g.C.Combine.of_bits c.args.self.now.own.items c.args.self.now.other.items in
    omega (arith, c.requires, few.1)

pub returns-clause-block : goal.returns-clause-block
returns-clause-block g c =
    read-combined g.T.BitBlock.number g.T.BitBlock.of_bits g.T.BitBlock.BITS g.C.Combine.of_bits
    g.met.T.BitBlock.of_bits_number_law c.args.self.now.own.items c.args.self.now.other.items
    c.args.k _ _ _ c.block-own.ensures.block c.block.ensures.block c.requires
    c.block-2.ensures.places c.block-2.ensures.within
