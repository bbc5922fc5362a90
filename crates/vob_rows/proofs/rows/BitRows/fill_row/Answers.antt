-- By what is known of a row, and of rows after one was put.
use Rattle.std.proofs.Common.{ap, ◌∙◌, ◌++◌, length, take, drop, set, replicate}
use Rattle.std.proofs.lemmas.List.{take_at}
use Rattle.vob_rows.proofs.PartLemmas.{HoldRows, row_at}
use Rattle.vob_rows.proofs.rows.BitRows.fill_row.Given as given
use Rattle.vob_rows.proofs.rows.BitRows.fill_row.Goals as goal
use Rattle.vob_rows.proofs.rows.BitRows.fill_row.Goals.{After-fill_at}

pub fill_at-requires : goal.fill_at-requires
fill_at-requires g c = (row_at g.T.BitBlock.number _ _ _ _ c.self.invariant _
    (ap (λ v. v.rows) c.self.view_is) c.args.i c.requires _ _ c.block_count-count.ensures
    c.as_mut_slice.ensures.value).row

filled : (g : given.Over) (c : After-fill_at g) → HoldRows g.T.BitBlock.number g.T.BitBlock.BITS
    c.self.inside.rows c.self.inside.columns (take c.self.inside.blocks.len (c.fill_at.new.blocks
    ++ drop (length c.fill_at.new.blocks) c.self.inside.blocks.items))
    (set c.args.self.now.rows c.args.i (replicate c.self.inside.columns c.args.value))
filled g c = (row_at g.T.BitBlock.number _ _ _ _ c.self.invariant _ (ap (λ v. v.rows) c.self.view_is)
    c.args.i c.requires _ _ c.block_count-count.ensures c.as_mut_slice.ensures.value).put
    c.fill_at.new.blocks _ _ (take_at c.fill_at.new.blocks _ c.self.inside.blocks.len
    (c.fill_at.auto.blocks ∙ c.as_mut_slice.ensures.len)) c.fill_at.ensures

pub invariant_of-self : goal.invariant_of-self
invariant_of-self g c = (filled g (goal.at.invariant_of-self g c).After-fill_at).canonical

pub returns-clause-rows : goal.returns-clause-rows
returns-clause-rows g c = (filled g (goal.at.returns-clause-rows g c).After-fill_at).are
    ∙ ap (λ v. set c.args.self.now.rows c.args.i (replicate v.columns c.args.value)) c.self.view_is
