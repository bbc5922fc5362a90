-- By what is known of a row, and of rows after one was put.
use Rattle.std.proofs.Common.{ap, ◌∙◌, ◌++◌, length, take, drop, set, map, not, get_or, []}
use Rattle.std.proofs.lemmas.List.{take_at}
use Rattle.vob_rows.proofs.PartLemmas.{HoldRows, row_at}
use Rattle.vob_rows.proofs.rows.BitRows.negate_row.Given as given
use Rattle.vob_rows.proofs.rows.BitRows.negate_row.Goals as goal
use Rattle.vob_rows.proofs.rows.BitRows.negate_row.Goals.{After-negate_at}

pub negate_at-requires : goal.negate_at-requires
negate_at-requires g c = (row_at g.T.BitBlock.number _ _ _ _ c.self.invariant _
    (ap (λ v. v.rows) c.self.view_is) c.args.i c.requires _ _ c.block_count-count.ensures
    c.as_mut_slice.ensures.value).row

negated : (g : given.Over) (c : After-negate_at g) → HoldRows g.T.BitBlock.number g.T.BitBlock.BITS
    c.self.inside.rows c.self.inside.columns (take c.self.inside.blocks.len (c.negate_at.new.blocks
    ++ drop (length c.negate_at.new.blocks) c.self.inside.blocks.items))
    (set c.args.self.now.rows c.args.i (map not (get_or c.args.self.now.rows c.args.i [])))
negated g c =
    let at = row_at g.T.BitBlock.number g.T.BitBlock.BITS _ _ _ c.self.invariant _
    (ap (λ v. v.rows) c.self.view_is) c.args.i c.requires _ _ c.block_count-count.ensures
    c.as_mut_slice.ensures.value in
    rw (← at.bits) (at.put c.negate_at.new.blocks _ _ (take_at c.negate_at.new.blocks _
    c.self.inside.blocks.len (c.negate_at.auto.blocks ∙ c.as_mut_slice.ensures.len))
    c.negate_at.ensures)

pub invariant_of-self : goal.invariant_of-self
invariant_of-self g c = (negated g (goal.at.invariant_of-self g c).After-negate_at).canonical

pub returns-clause-rows : goal.returns-clause-rows
returns-clause-rows g c = (negated g (goal.at.returns-clause-rows g c).After-negate_at).are
