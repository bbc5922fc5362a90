-- As many as there are true places.
use Rattle.std.proofs.Common.{◌∙◌, sym}
use Rattle.vob_walk.proofs.BlockBitsLemmas.{length-block_indices}
use Rattle.vob_walk.proofs.block_bits.BlockBits.of.Goals as goal

pub counted-requires-clause-count : goal.counted-requires-clause-count
counted-requires-clause-count g c = c.ones_in.ensures ∙ sym
    (length-block_indices g.T.BitBlock.BITS c.args.at (g.T.BitBlock.number c.args.word))
