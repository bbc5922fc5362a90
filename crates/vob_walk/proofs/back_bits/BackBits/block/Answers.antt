-- The mask of a run has its indices.
use Rattle.std.proofs.Common.{sym, arith}
use Rattle.vob_walk.proofs.BackBitsLemmas.{word-indices, IsBlockBits-mask, run-indices}
use Rattle.vob_walk.proofs.back_bits.BackBits.block.Goals as goal

pub returns-then-self-clause-same : goal.returns-then-self-clause-same
returns-then-self-clause-same g c =
    rw (← c.self.view_is) (sym (word-indices _ _ _ _ c.if-self.true))

pub returns-else-self-clause-bits : goal.returns-else-self-clause-bits
returns-else-self-clause-bits g c = IsBlockBits-mask c.self.invariant c.if-self.false
    c.low_mask.ensures.within c.low_mask.ensures.places (omega arith)

pub returns-else-self-clause-same : goal.returns-else-self-clause-same
returns-else-self-clause-same g c = rw (← c.self.view_is) (run-indices c.self.invariant
    c.if-self.false c.low_mask.ensures.within c.low_mask.ensures.places)
