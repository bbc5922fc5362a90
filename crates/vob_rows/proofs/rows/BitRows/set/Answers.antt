-- By what is known of a row, and of rows after one was put.
use Rattle.std.proofs.Common.{ap, ◌∙◌, ◌++◌, length, take, drop, set, get_or, [], arith}
use Rattle.std.proofs.lemmas.List.{take_at}
use Rattle.vob.proofs.BitsLemmas.{differ-at}
use Rattle.vob_rows.proofs.PartLemmas.{HoldRows, row_at}
use Rattle.vob_rows.proofs.rows.BitRows.set.Given as given
use Rattle.vob_rows.proofs.rows.BitRows.set.Goals as goal
use Rattle.vob_rows.proofs.rows.BitRows.set.Goals.{After-write_at}

pub write_at-requires-clause-row : goal.write_at-requires-clause-row
write_at-requires-clause-row g c = (row_at g.T.BitBlock.number _ _ _ _ c.self.invariant _
    (ap (λ v. v.rows) c.self.view_is) c.args.i c.requires.row _ _ c.block_count-count.ensures
    c.as_mut_slice.ensures.value).row

written : (g : given.Over) (c : After-write_at g) → HoldRows g.T.BitBlock.number g.T.BitBlock.BITS
    c.self.inside.rows c.self.inside.columns (take c.self.inside.blocks.len (c.write_at.new.blocks
    ++ drop (length c.write_at.new.blocks) c.self.inside.blocks.items))
    (set c.args.self.now.rows c.args.i (set (get_or c.args.self.now.rows c.args.i []) c.args.j
    c.args.value))
written g c =
    let at = row_at g.T.BitBlock.number g.T.BitBlock.BITS _ _ _ c.self.invariant _
    (ap (λ v. v.rows) c.self.view_is) c.args.i c.requires.row _ _ c.block_count-count.ensures
    c.as_mut_slice.ensures.value in
    rw (← at.bits) (at.put c.write_at.new.blocks _ _ (take_at c.write_at.new.blocks _
    c.self.inside.blocks.len (c.write_at.auto.blocks ∙ c.as_mut_slice.ensures.len))
    c.write_at.ensures.put)

pub invariant_of-self : goal.invariant_of-self
invariant_of-self g c = (written g (goal.at.invariant_of-self g c).After-write_at).canonical

pub returns-clause-rows : goal.returns-clause-rows
returns-clause-rows g c = (written g (goal.at.returns-clause-rows g c).After-write_at).are

pub returns-clause-differs : goal.returns-clause-differs
returns-clause-differs g c =
    let at = row_at g.T.BitBlock.number g.T.BitBlock.BITS _ _ _ c.self.invariant _
    (ap (λ v. v.rows) c.self.view_is) c.args.i c.requires.row _ _ c.block_count-count.ensures
    c.as_mut_slice.ensures.value in
    differ-at (get_or c.args.self.now.rows c.args.i []) c.args.j c.args.value _
    (omega (arith, at.long, c.requires.column, ap (λ v. v.columns) c.self.view_is))
    (rw at.bits at c.write_at.ensures.changed)
