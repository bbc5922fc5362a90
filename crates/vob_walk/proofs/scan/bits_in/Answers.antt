-- By the width that the code read.
use Rattle.vob_walk.proofs.ScanLemmas.{block_indices-in}
use Rattle.vob_walk.proofs.scan.bits_in.Goals as goal

pub returns-clause-indices : goal.returns-clause-indices
returns-clause-indices g c =
    rw c.BITS.ensures (block_indices-in _ _ _ _ _ _ _ c.masked.ensures.places)
