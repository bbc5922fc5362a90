-- Without a run the block is what is held, and a run has a last index.
use Rattle.std.proofs.Common.{◌∙◌, arith}
use Rattle.vob_walk.proofs.BlockBitsLemmas.{empty_test}
use Rattle.vob_walk.proofs.BackBitsLemmas.{word-indices, run-some}
use Rattle.vob_walk.proofs.back_bits.BackBits.is_empty.Goals as goal

pub returns-then-self : goal.returns-then-self
returns-then-self g c = rw (← c.self.view_is, word-indices _ _ _ _ c.if-self.true)
    (empty_test _ _ _ _ c.is_zero.ensures c.self.invariant.bits.within)

pub returns-else-self : goal.returns-else-self
returns-else-self g c = (
  λ yes. grind (arith, c.if-self.false, yes),
  λ none. absurd (run-some c.self.invariant c.if-self.false (c.self.view_is ∙ none)),
)
