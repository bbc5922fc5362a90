-- By what is known of a row.
use Rattle.std.proofs.Common.{ap, ◌∙◌}
use Rattle.vob_block.proofs.PackingLemmas.{length-unpacking}
use Rattle.vob_rows.proofs.PartLemmas.{IsRowAt, row_at}
use Rattle.vob_rows.proofs.rows.BitRows.row.Given as given
use Rattle.vob_rows.proofs.rows.BitRows.row.Goals as goal
use Rattle.vob_rows.proofs.rows.BitRows.row.Goals.{After-block_count}

at : (g : given.Over) (c : After-block_count g) → IsRowAt g.T.BitBlock.number g.T.BitBlock.BITS
    c.self.inside.rows c.self.inside.columns c.block_count.result c.as_slice.result.now
    c.args.self.now.rows c.args.i
at g c = row_at g.T.BitBlock.number g.T.BitBlock.BITS c.self.inside.rows c.self.inside.columns
    c.self.inside.blocks.items c.self.invariant _ (ap (λ v. v.rows) c.self.view_is) c.args.i
    c.requires _ _ c.block_count.ensures c.as_slice.ensures.value

pub row_blocks-requires : goal.row_blocks-requires
row_blocks-requires g c = (at g (goal.at.row_blocks-requires g c).After-block_count).row.inside

pub invariant_of-result : goal.invariant_of-result
invariant_of-result g c = rw c.row_blocks.ensures
    (at g (goal.at.invariant_of-result g c).After-block_count).row.canonical

pub returns-clause-bits : goal.returns-clause-bits
returns-clause-bits g c = rw c.row_blocks.ensures
    (at g (goal.at.returns-clause-bits g c).After-block_count).bits

pub returns-clause-long : goal.returns-clause-long
returns-clause-long g c = length-unpacking _ _ _ ∙ ap (λ v. v.columns) c.self.view_is
