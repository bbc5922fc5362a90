-- The length of what the blocks hold.
use Rattle.std.proofs.Common.{length, ap, sym, ◌∙◌}
use Rattle.vob_block.proofs.PackingLemmas.{length-unpacking}
use Rattle.vob_rows.proofs.row.Row.len.Goals as goal

pub returns : goal.returns
returns g c = sym (length-unpacking _ _ _) ∙ ap length c.self.view_is
