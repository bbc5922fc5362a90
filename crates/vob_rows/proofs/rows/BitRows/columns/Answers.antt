-- Each row is as long as there are columns.
use Rattle.std.proofs.Common.{ap}
use Rattle.vob_rows.proofs.PartLemmas.{of_length}
use Rattle.vob_rows.proofs.rows.BitRows.columns.Goals as goal

pub returns-clause-long : goal.returns-clause-long
returns-clause-long g c = of_length g.T.BitBlock.number g.T.BitBlock.BITS c.self.inside.rows
    c.self.inside.columns c.self.inside.blocks.items _ (ap (λ v. v.rows) c.self.view_is)
