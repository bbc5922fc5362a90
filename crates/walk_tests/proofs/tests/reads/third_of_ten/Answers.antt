-- Ten bits have two blocks, and no call reads more than it takes off those that are unread.
use Rattle.std.proofs.Common.{arith}
use Rattle.vob_block.specs.Packing.{need}
use Rattle.walk_tests.proofs.tests.reads.third_of_ten.Goals as goal

pub returns : goal.returns
unfolding need
returns c =
    let start = c.runs-runs.ensures in
    let left = rw c.requires.ten at start.left in
    omega (
      arith,
      left,
      start.reads,
      c.next.ensures.steps.reads,
      c.next-2.ensures.steps.reads,
      c.next-third.ensures.steps.reads,
    )
