-- By the read of the storage, and past the length nothing is there.
use Rattle.std.proofs.Common.{sym, map, arith}
use Rattle.std.proofs.lemmas.Bool.{false≢true}
use Rattle.vob_block.proofs.PackingLemmas.{length-unpacking}
use Rattle.vob_store.proofs.StorageLemmas.{past_unpacking}
use Rattle.vob.proofs.vob.Vob.get.Goals as goal

pub returns-then-index-self-clause-bit : goal.returns-then-index-self-clause-bit
returns-then-index-self-clause-bit g c = rw (← c.self.view_is)
    (sym (rw c.as_slice.ensures.value at c.stored_bit.ensures))

pub returns-else-index-self-clause-bit : goal.returns-else-index-self-clause-bit
returns-else-index-self-clause-bit g c = rw (← c.self.view_is)
    (sym (past_unpacking _ _ _ _ c.if-index-self.false))

pub returns-else-index-self-clause-inside : goal.returns-else-index-self-clause-inside
returns-else-index-self-clause-inside g c = rw (← c.self.view_is) (
  (λ e. absurd (false≢true e)),
  (λ inside. absurd (omega (
    arith,
    inside,
    length-unpacking c.self.inside.len
        (map g.T.BitBlock.number c.self.inside.vec.items) g.T.BitBlock.BITS,
    c.if-index-self.false,
  ))),
)
