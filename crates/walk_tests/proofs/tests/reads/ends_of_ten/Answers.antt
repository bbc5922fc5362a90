-- Ten bits have two blocks, and one of them may be read again.
use Rattle.std.proofs.Common.{arith}
use Rattle.vob_block.specs.Packing.{need}
use Rattle.walk_tests.proofs.tests.reads.ends_of_ten.Goals as goal

pub returns : goal.returns
unfolding need
returns c =
    let start = c.runs-runs.ensures in
    let left = rw c.requires.ten at start.left in
    omega (
      arith,
      left,
      start.reads,
      start.again,
      c.next_back.ensures.steps.reads,
      c.next-first.ensures.steps.reads,
      c.next-first.ensures.steps.again,
      c.next_back-last.ensures.steps.reads,
    )
