-- No bits need no block.
use Rattle.std.proofs.Common.{rules}
use Rattle.vob_block.specs.Packing.{need}
use Rattle.vob_tests.proofs.tests.paths.counts_and_blocks_are_named_by_their_modules.Goals as goal

pub count_ones_in-requires-clause-enough : goal.count_ones_in-requires-clause-enough
unfolding need
count_ones_in-requires-clause-enough g c = search rules
