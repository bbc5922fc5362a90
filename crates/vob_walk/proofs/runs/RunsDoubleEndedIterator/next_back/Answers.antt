-- By what the two searches find.
use Rattle.std.proofs.Common.{◌∙◌, arith, refl}
use Rattle.vob_walk.proofs.RunsBackLemmas.{GivesLastRun-end, GivesLastRun-none, GivesLastRun-next}
use Rattle.vob_walk.proofs.RunsBackLemmas.{IsOnRuns-back, IsOnRuns-back_none, block_there, fewer_left_back}
use Rattle.vob_walk.proofs.RunsBackLemmas.{last_there}
use Rattle.vob_walk.proofs.runs.RunsDoubleEndedIterator.next_back.Goals as goal

pub returns-then-self-clause-steps : goal.returns-then-self-clause-steps
returns-then-self-clause-steps g c = rw (← c.self.view_is) (GivesLastRun-end _
    g.met.T.BitBlock.wide_law _ _ _ _ c.self.inside.blocks c.self.invariant c.if-self.true)

pub block_at_back-block-requires-clause-count : goal.block_at_back-block-requires-clause-count
block_at_back-block-requires-clause-count g c = last_there _ g.met.T.BitBlock.wide_law _ _ _ _
    c.self.inside.blocks c.self.invariant c.if-self.false refl

pub previous_in_hand-end-requires-clause-count : goal.previous_in_hand-end-requires-clause-count
previous_in_hand-end-requires-clause-count g c = last_there _ g.met.T.BitBlock.wide_law _ _ _ _
    c.self.inside.blocks c.self.invariant c.if-self.false c.block_at_back-block.ensures.items

pub previous_in_hand-end-requires-clause-hand : goal.previous_in_hand-end-requires-clause-hand
previous_in_hand-end-requires-clause-hand g c =
    rw c.block_at_back-block.ensures.items c.block_at_back-block.ensures.block

pub invariant_of-self : goal.invariant_of-self
invariant_of-self g c = IsOnRuns-back_none _ g.met.T.BitBlock.wide_law _ _ _ _ c.self.inside.blocks
    c.self.invariant c.if-self.false c.block_at_back-block.ensures.items c.block_at_back-block.ensures.reads refl
    c.previous_in_hand-end.ensures c.if-end-self.true

pub returns-then-end-self-clause-steps : goal.returns-then-end-self-clause-steps
returns-then-end-self-clause-steps g c = rw (← c.self.view_is) (GivesLastRun-none _
    g.met.T.BitBlock.wide_law _ _ _ _ c.self.inside.blocks c.self.invariant c.if-self.false
    c.block_at_back-block.ensures.items c.block_at_back-block.ensures.reads refl c.previous_in_hand-end.ensures
    c.if-end-self.true)

pub previous_in_hand-start-requires-clause-count : goal.previous_in_hand-start-requires-clause-count
previous_in_hand-start-requires-clause-count g c = block_there _ g.met.T.BitBlock.wide_law _ _ _ _
    c.self.inside.blocks c.self.invariant
    (omega (arith, c.previous_in_hand-end.ensures.within, c.self.invariant.within, c.if-self.false))
    (c.previous_in_hand-end.ensures.items ∙ c.block_at_back-block.ensures.items)

pub invariant_of-self-2 : goal.invariant_of-self-2
invariant_of-self-2 g c = IsOnRuns-back _ g.met.T.BitBlock.wide_law _ _ _ _ c.self.inside.blocks
    c.self.invariant c.if-self.false c.block_at_back-block.ensures.items c.block_at_back-block.ensures.reads refl
    c.previous_in_hand-end.ensures c.if-end-self.false refl c.previous_in_hand-start.ensures

pub returns-clause-steps : goal.returns-clause-steps
returns-clause-steps g c = rw (← c.self.view_is) (GivesLastRun-next _ g.met.T.BitBlock.wide_law _ _
    _ _ c.self.inside.blocks c.self.invariant c.if-self.false c.block_at_back-block.ensures.items
    c.block_at_back-block.ensures.reads refl c.previous_in_hand-end.ensures c.if-end-self.false refl
    c.previous_in_hand-start.ensures)

pub returns-clause-goes : goal.returns-clause-goes
returns-clause-goes g c = record {
  on = λ finite. (tt, tt, fewer_left_back _ _ _ (returns-clause-steps g c));
  keeps = tt;
  rests = λ _. tt;
}
