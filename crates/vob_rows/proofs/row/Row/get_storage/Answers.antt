-- The packing of what they store.
use Rattle.vob_rows.proofs.PartLemmas.{packed}
use Rattle.vob_rows.proofs.row.Row.get_storage.Goals as goal

pub returns : goal.returns
returns g c = packed _ g.met.T.BitBlock.wide_law _ _ _ c.self.invariant c.self.view_is
