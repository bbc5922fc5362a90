-- No bits and no blocks, with room for at least as many blocks as the capacity needs.
use Rattle.vob_store.proofs.StorageLemmas.{canonical_nothing, unpacking-zero}
use Rattle.vob.proofs.vob.Vob.new_with_storage_type.Goals as goal

pub invariant_of-result : goal.invariant_of-result
invariant_of-result g c =
    rw c.in_ok-vec.ensures.items (canonical_nothing g.T.BitBlock.BITS g.met.T.BitBlock.wide_law)

pub returns-clause-empty : goal.returns-clause-empty
returns-clause-empty g c = unpacking-zero _ _
