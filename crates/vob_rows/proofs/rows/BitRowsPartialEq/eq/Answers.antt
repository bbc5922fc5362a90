-- The shapes are compared, and then the blocks.
use Rattle.std.proofs.Common.{ap, sym}
use Rattle.std.proofs.lemmas.Bool.{false≢true}
use Rattle.vob_rows.proofs.SameLemmas.{counts_same, matrices_decide, same_matrix_is}
use Rattle.vob_rows.proofs.rows.BitRowsPartialEq.eq.Goals as goal

pub returns-then-self-other-clause-same : goal.returns-then-self-other-clause-same
returns-then-self-other-clause-same g c = (
  (λ e. absurd (false≢true e)),
  (λ e. absurd (c.if-self-other.true (counts_same g.T.BitBlock.number g.T.BitBlock.BITS _ _ _ _
      _ _ _ _ c.self.view_is c.other.view_is e))),
)

pub returns-then-self-other-clause-answer : goal.returns-then-self-other-clause-answer
returns-then-self-other-clause-answer g c =
    same_matrix_is _ _ _ (returns-then-self-other-clause-same g c)

pub returns-clause-same : goal.returns-clause-same
returns-clause-same g c =
    matrices_decide g.T.BitBlock.number g.T.BitBlock.BITS g.met.T.BitBlock.wide_law _ _ _
    c.self.invariant _ c.self.view_is _ _ _ c.other.invariant _ c.other.view_is c.if-self-other.false
    c.if-self-other-2.false _
    (rw (c.as_slice.ensures.value, c.as_slice-2.ensures.value) at c.same_blocks.ensures)

pub returns-clause-answer : goal.returns-clause-answer
returns-clause-answer g c = same_matrix_is _ _ _ (returns-clause-same g c)
