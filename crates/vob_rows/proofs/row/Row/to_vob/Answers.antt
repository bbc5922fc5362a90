-- What the blocks hold, behind no bits.
use Rattle.std.proofs.Common.{sym, ◌∙◌}
use Rattle.vob_block.proofs.PackingLemmas.{packing_is}
use Rattle.vob_rows.proofs.row.Row.to_vob.Goals as goal

pub returns-clause-bits : goal.returns-clause-bits
returns-clause-bits g c = (rw c.in_ok-vob.ensures.empty at c.append_blocks.ensures.bits)
    ∙ (packing_is _ g.met.T.BitBlock.wide_law _ _ _ c.blocks-2.ensures.blocks (sym c.len-2.ensures)).bits
