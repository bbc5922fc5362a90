-- As many as there are true places in the block.
use Rattle.std.proofs.Common.{◌∙◌, ap, sym, length}
use Rattle.vob_walk.proofs.BlockBitsLemmas.{length-block_indices}
use Rattle.vob_walk.proofs.back_bits.BackBits.count.Goals as goal

pub returns : goal.returns
returns g c = c.ones_in.ensures ∙ sym (length-block_indices _ _ _) ∙ ap length c.block.ensures.same
