-- By what is known of a row, and of rows after one was combined.
use Rattle.std.proofs.Common.{ap, sym, ◌∙◌, ◌++◌, length, take, drop, get_or, []}
use Rattle.std.proofs.lemmas.List.{take_at, length-map}
use Rattle.vob_block.specs.Packing.{need}
use Rattle.vob_block.specs.Pointwise.{pointwise}
use Rattle.vob_block.proofs.PackingLemmas.{length-unpacking}
use Rattle.vob_rows.proofs.PartLemmas.{HoldCombined, packed, row_at, row_combined}
use Rattle.vob_rows.proofs.rows.BitRows.combine.Given as given
use Rattle.vob_rows.proofs.rows.BitRows.combine.Goals as goal
use Rattle.vob_rows.proofs.rows.BitRows.combine.Goals.{After-combine_at}

pub combine_at-requires-clause-inside : goal.combine_at-requires-clause-inside
combine_at-requires-clause-inside g c = (row_at g.T.BitBlock.number _ _ _ _ c.self.invariant _
    (ap (λ v. v.rows) c.self.view_is) c.args.i c.requires.row _ _ c.block_count-count.ensures
    c.as_mut_slice.ensures.value).row.inside

pub combine_at-requires-clause-long : goal.combine_at-requires-clause-long
combine_at-requires-clause-long g c =
    sym (length-map c.other.inside.blocks.now g.T.BitBlock.number) ∙ c.other.invariant.count
    ∙ ap (λ n. need n g.T.BitBlock.BITS) (sym (length-unpacking _ _ _) ∙ ap length c.other.view_is
    ∙ c.requires.long ∙ ap (λ v. v.columns) (sym c.self.view_is)) ∙ sym c.block_count-count.ensures

combined : (g : given.Over) (c : After-combine_at g) → HoldCombined g.T.BitBlock.number
    g.T.BitBlock.BITS c.self.inside.rows c.self.inside.columns (take c.self.inside.blocks.len
    (c.combine_at.new.blocks ++ drop (length c.combine_at.new.blocks) c.self.inside.blocks.items))
    c.args.self.now.rows c.args.i
    (pointwise g.C.Combine.of_bits (get_or c.args.self.now.rows c.args.i []) c.args.other.now)
    c.combine_at.result
combined g c = row_combined g.T.BitBlock.number g.T.BitBlock.BITS g.met.T.BitBlock.wide_law
    (row_at g.T.BitBlock.number g.T.BitBlock.BITS _ _ _ c.self.invariant _
    (ap (λ v. v.rows) c.self.view_is) c.args.i c.requires.row _ _ c.block_count-count.ensures
    c.as_mut_slice.ensures.value) c.requires.row g.T.BitBlock.of_bits
    g.met.T.BitBlock.of_bits_number_law g.C.Combine.of_bits c.requires.none c.args.other.now
    (c.requires.long ∙ ap (λ v. v.columns) (sym c.self.view_is)) _
    (packed _ g.met.T.BitBlock.wide_law _ _ _ c.other.invariant c.other.view_is)
    c.combine_at.new.blocks _ _ (take_at c.combine_at.new.blocks _ c.self.inside.blocks.len
    (c.combine_at.auto.blocks ∙ c.as_mut_slice.ensures.len)) c.combine_at.ensures

pub invariant_of-self : goal.invariant_of-self
invariant_of-self g c = (combined g (goal.at.invariant_of-self g c).After-combine_at).hold.canonical

pub returns-clause-rows : goal.returns-clause-rows
returns-clause-rows g c = (combined g (goal.at.returns-clause-rows g c).After-combine_at).hold.are

pub returns-clause-changed : goal.returns-clause-changed
returns-clause-changed g c =
    let after = combined g (goal.at.returns-clause-changed g c).After-combine_at in
    rw after.hold.are after.flag
