-- No bits and no blocks.
use Rattle.vob_store.proofs.StorageLemmas.{canonical_nothing, unpacking-zero}
use Rattle.vob.proofs.vob.Vob.empty.Goals as goal

pub invariant_of-result : goal.invariant_of-result
invariant_of-result g c = rw c.new.ensures.items
    (canonical_nothing g.T.BitBlock.BITS g.met.T.BitBlock.wide_law)

pub returns : goal.returns
returns g c = unpacking-zero _ _
