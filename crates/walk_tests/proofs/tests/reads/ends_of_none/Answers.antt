-- No block is met, so a walk that gives nothing reads none.
use Rattle.std.proofs.Common.{arith}
use Rattle.vob_walk.specs.Matches.{blocks_met}
use Rattle.vob_walk.specs.Walk.{given_count}
use Rattle.walk_tests.proofs.tests.reads.ends_of_none.Goals as goal

pub returns : goal.returns
unfolding blocks_met given_count
returns c = λ first last.
    let walk = c.iter_set_bits-walk.ensures in
    let met = rw c.requires.none at (walk.fresh tt).whole.left in
    let one = rw first at c.next-first.ensures.steps.reads.bound in
    let two = rw last at c.next_back-last.ensures.steps.reads.bound in
    omega (arith, one, two, met, walk.reads)
