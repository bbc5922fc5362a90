-- By what the two searches find.
use Rattle.std.proofs.Common.{arith}
use Rattle.std.proofs.lemmas.List.{length-map}
use Rattle.vob_block.proofs.NeedLemmas.{div-lt-need}
use Rattle.vob_walk.proofs.RunsLemmas.{GivesRun-end, GivesRun-none, GivesRun-next, fewer_left}
use Rattle.vob_walk.proofs.RunsLemmas.{IsOnRuns-none, IsOnRuns-next}
use Rattle.vob_walk.proofs.runs.RunsIterator.next.Goals as goal

pub returns-then-self-clause-steps : goal.returns-then-self-clause-steps
returns-then-self-clause-steps g c =
    let s = c.self.inside in
    rw (← c.self.view_is) (GivesRun-end g.T.BitBlock.BITS g.met.T.BitBlock.wide_law g.T.BitBlock.number s.value
    s.first s.len s.blocks c.self.invariant c.if-self.true)

pub block_in_hand-block-requires-clause-count : goal.block_in_hand-block-requires-clause-count
block_in_hand-block-requires-clause-count g c =
    let s = c.self.inside in
    omega (
      arith,
      c.self.invariant.count,
      length-map s.blocks.items g.T.BitBlock.number,
      div-lt-need g.T.BitBlock.BITS g.met.T.BitBlock.wide_law s.len s.from
          (omega (arith, c.self.invariant.within, c.if-self.false)),
    )

pub returns-then-start-self-clause-steps : goal.returns-then-start-self-clause-steps
returns-then-start-self-clause-steps g c =
    let s = c.self.inside in
    let hand = c.block_in_hand-block.ensures in
    rw (← c.self.view_is) (GivesRun-none g.T.BitBlock.BITS g.met.T.BitBlock.wide_law g.T.BitBlock.number
    s.value s.first s.len s.blocks c.self.invariant c.if-self.false hand.items hand.reads
    c.next_in_hand-start.ensures c.if-start-self.true)

pub returns-clause-steps : goal.returns-clause-steps
returns-clause-steps g c =
    let s = c.self.inside in
    let hand = c.block_in_hand-block.ensures in
    rw (← c.self.view_is) (GivesRun-next g.T.BitBlock.BITS g.met.T.BitBlock.wide_law g.T.BitBlock.number
    s.value s.first s.len s.blocks c.self.invariant c.if-self.false hand.items hand.reads
    c.next_in_hand-start.ensures c.if-start-self.false c.next_in_hand-stop.ensures)

pub invariant_of-self : goal.invariant_of-self
invariant_of-self g c =
    let s = c.self.inside in
    let hand = c.block_in_hand-block.ensures in
    IsOnRuns-none g.T.BitBlock.BITS g.met.T.BitBlock.wide_law g.T.BitBlock.number
    s.value s.first s.len s.blocks c.self.invariant c.if-self.false hand.items hand.reads
    c.next_in_hand-start.ensures c.if-start-self.true

pub invariant_of-self-2 : goal.invariant_of-self-2
invariant_of-self-2 g c =
    let s = c.self.inside in
    let hand = c.block_in_hand-block.ensures in
    IsOnRuns-next g.T.BitBlock.BITS g.met.T.BitBlock.wide_law g.T.BitBlock.number
    s.value s.first s.len s.blocks c.self.invariant c.if-self.false hand.items hand.reads
    c.next_in_hand-start.ensures c.if-start-self.false c.next_in_hand-stop.ensures

pub returns-clause-goes : goal.returns-clause-goes
returns-clause-goes g c = record {
  on = λ finite. (tt, tt, fewer_left _ _ _ (returns-clause-steps g c));
  keeps = tt;
  rests = λ _. tt;
}
