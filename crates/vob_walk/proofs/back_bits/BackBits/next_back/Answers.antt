-- A run ends with its last index, and without one the last true place of the block is it.
use Rattle.std.proofs.Common.{◌-◌, ◌∙◌, ap}
use Rattle.vob_walk.proofs.BlockBitsLemmas.{block_indices-zero, block_indices-last, IsBlockBits-cleared}
use Rattle.vob_walk.proofs.BackBitsLemmas.{IsBackBits-word, word-indices, word-last, IsBackBits-shorter, run-taken}
use Rattle.vob_walk.proofs.back_bits.BackBits.next_back.Goals as goal

pub invariant_of-self : goal.invariant_of-self
invariant_of-self g c = IsBackBits-shorter c.self.invariant c.if-self.true

pub returns-then-self : goal.returns-then-self
returns-then-self g c = rw (← c.self.view_is) (run-taken c.self.invariant c.if-self.true)

pub returns-then-is_zero : goal.returns-then-is_zero
returns-then-is_zero g c =
    let none = word-indices _ _ _ _ c.if-self.false
    ∙ block_indices-zero _ _ _ (c.is_zero.ensures.0 c.if-is_zero.true) in
    rw (← c.self.view_is) (none, none)

pub overflow_sub-place-2 : goal.overflow_sub-place-2
overflow_sub-place-2 g c = (word-last c.self.invariant.bits c.BITS.ensures c.zeros_high.ensures
    c.is_zero.ensures c.if-is_zero.false).0

pub without_place-self-inside-requires-clause-there :
    goal.without_place-self-inside-requires-clause-there
without_place-self-inside-requires-clause-there g c = (word-last c.self.invariant.bits c.BITS.ensures
    c.zeros_high.ensures c.is_zero.ensures c.if-is_zero.false).2

pub invariant_of-self-2 : goal.invariant_of-self-2
invariant_of-self-2 g c =
    let last = word-last c.self.invariant.bits c.BITS.ensures c.zeros_high.ensures c.is_zero.ensures
    c.if-is_zero.false in
    let taken = c.without_place-self-inside.ensures in
    IsBackBits-word c.if-self.false (IsBlockBits-cleared _ _ _ _ _ last.1 last.2 taken.places
    taken.within c.self.invariant.bits)

pub returns : goal.returns
returns g c =
    let s = c.self.inside in
    let last = word-last c.self.invariant.bits c.BITS.ensures c.zeros_high.ensures c.is_zero.ensures
    c.if-is_zero.false in
    rw (
      ← c.self.view_is,
      word-indices g.T.BitBlock.BITS s.at _ s.past c.if-self.false,
      word-indices g.T.BitBlock.BITS s.at _ s.past c.if-self.false,
    )
    (block_indices-last _ s.at _ _ _ last.1 last.2 c.without_place-self-inside.ensures.places _
    c.zeros_high.ensures (ap (λ m. m - 1 - c.zeros_high.result) c.BITS.ensures))
