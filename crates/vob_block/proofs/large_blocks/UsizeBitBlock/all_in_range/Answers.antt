-- Each item of a slice fits its type.
use Rattle.std.specs.Prelude.{◌^◌}
use Rattle.vob_block.proofs.NumberLemmas.{all_own_numbers}
use Rattle.vob_block.proofs.large_blocks.UsizeBitBlock.all_in_range.Goals as goal

pub returns : goal.returns
returns c = all_own_numbers (2 ^ 64) c.args.blocks.now (λ k. (c.type_inv.blocks k).fits)
