-- By computing how many blocks the range meets.
use Rattle.std.proofs.Common.{arith}
use Rattle.vob_walk.specs.Matches.{blocks_met}
use Rattle.walk_tests.proofs.tests.reads.set_of_ten.Goals as goal

pub returns-clause-given : goal.returns-clause-given
unfolding blocks_met
returns-clause-given c =
    let walk = c.iter_set_bits-walk.ensures in
    let pulled = c.in_ok-deal.ensures in
    let met = rw c.requires.ten at (walk.fresh tt).whole.left in
    rw (pulled.ok, c.requires.empty) (omega (arith, pulled.reads.bound, met, walk.reads))

pub returns-clause-held : goal.returns-clause-held
unfolding blocks_met
returns-clause-held c =
    let walk = c.iter_set_bits-walk.ensures in
    let met = rw c.requires.ten at (walk.fresh tt).whole.credit in
    omega (arith, c.in_ok-deal.ensures.reads.credit, met, walk.reads)
