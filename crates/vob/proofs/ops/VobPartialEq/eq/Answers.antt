-- Equal lists have equal lengths, and then equal blocks.
use Rattle.std.proofs.Common.{ap}
use Rattle.vob.proofs.SameLemmas.{blocks_decide, lengths_decide, same_bits_is}
use Rattle.vob.proofs.ops.VobPartialEq.eq.Goals as goal

pub returns-then-same_length-clause-lists : goal.returns-then-same_length-clause-lists
returns-then-same_length-clause-lists g c =
    let test = rw (c.as_slice.ensures.value, c.as_slice-then-same_length.ensures.value) at
    c.same_blocks.ensures in
    blocks_decide g.T.BitBlock.BITS g.met.T.BitBlock.wide_law _ _ _ _ c.self.invariant c.other.invariant
    _ _ (ap (λ v. v.bits) c.self.view_is) (ap (λ v. v.bits) c.other.view_is)
    c.if-same_length.true _ test

pub returns-then-same_length-clause-answer : goal.returns-then-same_length-clause-answer
returns-then-same_length-clause-answer g c =
    same_bits_is _ _ _ (returns-then-same_length-clause-lists g c)

pub returns-else-same_length-clause-lists : goal.returns-else-same_length-clause-lists
returns-else-same_length-clause-lists g c =
    lengths_decide g.T.BitBlock.BITS g.met.T.BitBlock.wide_law _ _ _ _ c.self.invariant
    c.other.invariant _ _ (ap (λ v. v.bits) c.self.view_is) (ap (λ v. v.bits) c.other.view_is)
    c.if-same_length.false

pub returns-else-same_length-clause-answer : goal.returns-else-same_length-clause-answer
returns-else-same_length-clause-answer g c =
    same_bits_is _ _ _ (returns-else-same_length-clause-lists g c)
