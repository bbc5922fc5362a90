-- The block of an index within is one of those that the bits need.
use Rattle.std.proofs.Common.{◌+◌, ◌/◌, ap, arith}
use Rattle.vob_block.proofs.NeedLemmas.{div-lt-need}
use Rattle.vob_block.proofs.NumberLemmas.{number_read}
use Rattle.vob_walk.proofs.RunsLemmas.{met-held, met-unread}
use Rattle.vob_walk.proofs.runs.hand_at.Goals as goal
use Rattle.vob_walk.proofs.runs.hand_at.Goals.{else-start-gt0-via-then-start-gt0+else-start-stop, else-start-gt0-via-else-start-gt0}

pub block-requires : goal.block-requires
block-requires g c = omega (
  arith,
  c.requires.count,
  ap (λ u. c.args.start / u) c.BITS.ensures,
  div-lt-need g.T.BitBlock.BITS g.met.T.BitBlock.wide_law c.args.stop c.args.start
      c.if-start-stop.true,
)

pub returns-then-start-stop-clause-hand : goal.returns-then-start-stop-clause-hand
returns-then-start-stop-clause-hand g c = λ some below.
    number_read g.T.BitBlock.number c.args.blocks.now.items (c.args.start / g.T.BitBlock.BITS)
    c.block.result (rw c.BITS.ensures at c.block.ensures.block)

pub returns-then-start-stop-clause-reads : goal.returns-then-start-stop-clause-reads
returns-then-start-stop-clause-reads g c = omega (
  arith,
  c.block.ensures.reads,
  met-held g.T.BitBlock.BITS g.met.T.BitBlock.wide_law c.args.start c.args.stop c.requires.within
      c.if-start-gt0.true c.if-start-stop.true,
)

pub returns-else-start-gt0-clause-reads : goal.returns-else-start-gt0-clause-reads
returns-else-start-gt0-clause-reads g c = ap (λ k. c.args.blocks.now.reads + k)
    (met-unread g.T.BitBlock.BITS g.met.T.BitBlock.wide_law c.args.start c.args.stop c.requires.within
    (λ both. elim c.else-start-gt0.branch [
      | else-start-gt0-via-then-start-gt0+else-start-stop w ↦
          absurd (omega (arith, both.1, w.if-start-stop.false))
      | else-start-gt0-via-else-start-gt0 w ↦ absurd (omega (arith, both.0, w.if-start-gt0.false))
    ]))
