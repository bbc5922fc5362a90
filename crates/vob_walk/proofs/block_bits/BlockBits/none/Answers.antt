-- The block 0 has no index.
use Rattle.std.proofs.Common.{ap, sym, ◌∙◌, length}
use Rattle.vob_walk.proofs.BlockBitsLemmas.{block_indices-zero}
use Rattle.vob_walk.proofs.block_bits.BlockBits.none.Goals as goal

pub counted-requires-clause-count : goal.counted-requires-clause-count
counted-requires-clause-count g c =
    let number = g.T.BitBlock.number in
    ap length (sym (block_indices-zero g.T.BitBlock.BITS 0 (number c.ZERO.result)
    (ap number c.ZERO.ensures ∙ g.met.T.BitBlock.zero_number_law)))

pub returns : goal.returns
returns g c =
    let number = g.T.BitBlock.number in
    c.counted.ensures ∙ block_indices-zero g.T.BitBlock.BITS 0 (number c.ZERO.result)
    (ap number c.ZERO.ensures ∙ g.met.T.BitBlock.zero_number_law)
