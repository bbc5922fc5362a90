-- By the lemma on one block.
use Rattle.vob_block.proofs.KernelLemmas.{Takes-item}
use Rattle.vob_block.proofs.combine.combine_block.Goals as goal

pub returns-clause-taken : goal.returns-clause-taken
returns-clause-taken g c =
    Takes-item g.T.BitBlock.number g.T.BitBlock.BITS g.C.Combine.of_bits c.args.other.now.items
    c.args.own.now c.args.k (g.T.BitBlock.number c.args.changed) c.in_range.ensures c.requires.own
    c.index-own-k.result c.block.result c.block-new.result c.bxor.result c.bor.result
    c.index-own-k.is c.block.ensures.block c.in_range-2.ensures c.block-new.ensures.within
    c.bxor.ensures.within c.bor.ensures.within c.block-new.ensures.places c.bxor.ensures.places
    c.bor.ensures.places
