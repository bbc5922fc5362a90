-- By what is known of a row, and of rows after one was put.
use Rattle.std.proofs.Common.{ap, ◌∙◌, ◌++◌, ◌-◌, [], ◌∷◌, length, take, drop, set, get_or, arith}
use Rattle.std.proofs.lemmas.List.{take_at, get_or-set_same}
use Rattle.vob_block.specs.Packing.{unpacking}
use Rattle.vob.specs.Copy.{written_over}
use Rattle.vob_rows.proofs.PartLemmas.{HoldRows, row_at}
use Rattle.vob_rows.proofs.rows.BitRows.store.Given as given
use Rattle.vob_rows.proofs.rows.BitRows.store.Goals as goal
use Rattle.vob_rows.proofs.rows.BitRows.store.Goals.{After-store_at}

pub store_at-requires-clause-row : goal.store_at-requires-clause-row
store_at-requires-clause-row g c = (row_at g.T.BitBlock.number _ _ _ _ c.self.invariant _
    (ap (λ v. v.rows) c.self.view_is) c.args.i c.requires.row _ _ c.block_count-count.ensures
    c.as_mut_slice.ensures.value).row

pub store_at-requires-clause-inside : goal.store_at-requires-clause-inside
store_at-requires-clause-inside g c = omega (arith, c.requires.inside, ap (λ v. v.columns) c.self.view_is)

stored : (g : given.Over) (c : After-store_at g) → HoldRows g.T.BitBlock.number g.T.BitBlock.BITS
    c.self.inside.rows c.self.inside.columns (take c.self.inside.blocks.len (c.store_at.new.blocks
    ++ drop (length c.store_at.new.blocks) c.self.inside.blocks.items))
    (set c.args.self.now.rows c.args.i (written_over c.args.range.start
    (unpacking (c.args.range.end - c.args.range.start) (g.T.BitBlock.number c.args.word ∷ [])
    g.T.BitBlock.BITS) (get_or c.args.self.now.rows c.args.i [])))
stored g c =
    let at = row_at g.T.BitBlock.number g.T.BitBlock.BITS _ _ _ c.self.invariant _
    (ap (λ v. v.rows) c.self.view_is) c.args.i c.requires.row _ _ c.block_count-count.ensures
    c.as_mut_slice.ensures.value in
    rw (← at.bits) (at.put c.store_at.new.blocks _ _ (take_at c.store_at.new.blocks _
    c.self.inside.blocks.len (c.store_at.auto.blocks ∙ c.as_mut_slice.ensures.len))
    c.store_at.ensures.put)

pub invariant_of-self : goal.invariant_of-self
invariant_of-self g c = (stored g (goal.at.invariant_of-self g c).After-store_at).canonical

pub returns-clause-rows : goal.returns-clause-rows
returns-clause-rows g c = (stored g (goal.at.returns-clause-rows g c).After-store_at).are

pub returns-clause-each : goal.returns-clause-each
returns-clause-each g c =
    let at = row_at g.T.BitBlock.number g.T.BitBlock.BITS _ _ _ c.self.invariant _
    (ap (λ v. v.rows) c.self.view_is) c.args.i c.requires.row _ _ c.block_count-count.ensures
    c.as_mut_slice.ensures.value in
    rw (returns-clause-rows g c, get_or-set_same c.args.self.now.rows c.args.i _ [] c.requires.row)
    (rw at.bits at c.store_at.ensures.copied)
