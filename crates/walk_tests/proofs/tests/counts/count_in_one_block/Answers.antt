-- By computing at the two blocks.
use Rattle.std.proofs.Common.{length, ap, arith}
use Rattle.vob_block.specs.Packing.{need, bit_at}
use Rattle.vob_walk.specs.Matches.{blocks_met}
use Rattle.vob_walk.specs.Count.{ones_between}
use Rattle.walk_tests.proofs.tests.counts.count_in_one_block.Goals as goal

pub count_ones_in-requires-clause-enough : goal.count_ones_in-requires-clause-enough
unfolding need
count_ones_in-requires-clause-enough c = omega (arith, ap length c.requires)

pub returns-clause-ones : goal.returns-clause-ones
unfolding ones_between bit_at
returns-clause-ones c = rw c.requires at c.count_ones_in.ensures.ones

pub returns-clause-reads : goal.returns-clause-reads
unfolding blocks_met
returns-clause-reads c = omega (arith, c.count_ones_in.ensures.reads)
