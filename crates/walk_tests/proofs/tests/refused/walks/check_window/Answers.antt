-- Two bits need the one block that there is.
use Rattle.std.proofs.Common.{rules}
use Rattle.vob_block.specs.Packing.{need}
use Rattle.walk_tests.proofs.tests.refused.walks.check_window.Goals as goal

pub count_ones_in-requires-clause-enough : goal.count_ones_in-requires-clause-enough
unfolding need
count_ones_in-requires-clause-enough g c = search rules
