-- Each item of a slice fits its type.
use Rattle.std.specs.Prelude.{◌^◌}
use Rattle.vob_block.proofs.NumberLemmas.{all_own_numbers}
use Rattle.vob_block.proofs.small_blocks.U8BitBlock.all_in_range.Goals as goal

pub returns : goal.returns
returns c = all_own_numbers (2 ^ 8) c.args.blocks.now (λ k. (c.type_inv.blocks k).fits)
