-- As many rows as are unpacked.
use Rattle.std.proofs.Common.{length, ap, sym, ◌∙◌}
use Rattle.vob_rows.proofs.PartLemmas.{length-unpacked_rows}
use Rattle.vob_rows.proofs.rows.BitRows.rows.Goals as goal

pub returns : goal.returns
returns g c = sym (length-unpacked_rows g.T.BitBlock.number g.T.BitBlock.BITS c.self.inside.rows
    c.self.inside.columns c.self.inside.blocks.items) ∙ ap (λ v. length v.rows) c.self.view_is
