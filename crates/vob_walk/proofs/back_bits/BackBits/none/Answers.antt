-- The block 0 has no index.
use Rattle.std.proofs.Common.{◌++◌, [], ap, ◌∙◌}
use Rattle.vob_walk.proofs.BlockBitsLemmas.{block_indices-zero}
use Rattle.vob_walk.proofs.back_bits.BackBits.none.Goals as goal

pub returns : goal.returns
returns g c = ap (λ xs. xs ++ []) (block_indices-zero g.T.BitBlock.BITS 0 _
    (ap g.T.BitBlock.number c.ZERO.ensures ∙ g.met.T.BitBlock.zero_number_law))
