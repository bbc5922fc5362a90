-- Three bits need one block of eight.
use Rattle.std.proofs.Common.{length, ap}
use Rattle.vob_block.specs.Packing.{need}
use Rattle.walk_tests.proofs.tests.walks.blocks_are_walked_up_to_a_length.Goals as goal

pub over-set-requires : goal.over-set-requires
unfolding need
over-set-requires g c = ap length c.new.ensures.items

pub over-unset-requires : goal.over-unset-requires
unfolding need
over-unset-requires g c = ap length c.new-2.ensures.items

pub over-back-requires : goal.over-back-requires
unfolding need
over-back-requires g c = ap length c.new-3.ensures.items
