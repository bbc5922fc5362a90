-- The number of a block is the block itself.
use Rattle.std.proofs.lemmas.List.{map-id}
use Rattle.vob_block.proofs.lanes.UsizeKernel.combine_into.Goals as goal

pub returns : goal.returns
returns g c = record {
  combined = simp map-id c.combine_blocks.ensures.combined;
  read = c.combine_blocks.ensures.read;
}
