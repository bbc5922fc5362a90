-- The blocks are the packing of the bits.
use Rattle.std.proofs.Common.{sym}
use Rattle.vob_block.proofs.PackingLemmas.{packing_is}
use Rattle.vob_rows.proofs.row.Row.of.Goals as goal

pub invariant_of-result : goal.invariant_of-result
invariant_of-result g c = (packing_is _ g.met.T.BitBlock.wide_law _ _ _ c.get_storage.ensures
    (sym c.len.ensures.len)).canonical

pub returns : goal.returns
returns g c = (packing_is _ g.met.T.BitBlock.wide_law _ _ _ c.get_storage.ensures
    (sym c.len.ensures.len)).bits
