-- By what is known of both rows, and of rows after one was combined.
use Rattle.std.proofs.Common.{ap, sym, ◌∙◌, ◌++◌, ◌||◌, length, take, drop, set, get_or, []}
use Rattle.std.proofs.lemmas.List.{set-get_or, take_at, length-map}
use Rattle.vob_block.specs.Packing.{need}
use Rattle.vob_block.specs.Pointwise.{pointwise}
use Rattle.vob_block.proofs.PackingLemmas.{length-unpacking}
use Rattle.vob_block.proofs.PointwiseLemmas.{length-pointwise}
use Rattle.vob_rows.proofs.PartLemmas.{HoldCombined, absorbed, or_gains, packed, row_at, row_or_combined}
use Rattle.vob_rows.proofs.rows.BitRows.or_row_with.Given as given
use Rattle.vob_rows.proofs.rows.BitRows.or_row_with.Goals as goal
use Rattle.vob_rows.proofs.rows.BitRows.or_row_with.Goals.{After-or_rows_combined}

pub returns-then-into-from-clause-rows : goal.returns-then-into-from-clause-rows
returns-then-into-from-clause-rows g c =
    let rows = c.args.self.now.rows in
    let f = g.C.Combine.of_bits in
    sym (ap (λ k. set rows c.args.into (pointwise ◌||◌ (get_or rows c.args.into [])
    (pointwise f (get_or rows k []) c.args.other.now))) (sym c.if-into-from.true)
    ∙ ap (set rows c.args.into) (absorbed f c.requires.absorbs (get_or rows c.args.into [])
    c.args.other.now (c.columns-columns.ensures.long c.args.into [] c.requires.into
    ∙ c.columns-columns.ensures.columns ∙ sym c.requires.long))
    ∙ set-get_or rows c.args.into [])

pub or_rows_combined-requires-clause-into : goal.or_rows_combined-requires-clause-into
or_rows_combined-requires-clause-into g c = (row_at g.T.BitBlock.number _ _ _ _ c.self.invariant _
    (ap (λ v. v.rows) c.self.view_is) c.args.into c.requires.into _ _ c.block_count-count.ensures
    c.as_mut_slice.ensures.value).row.inside

pub or_rows_combined-requires-clause-from : goal.or_rows_combined-requires-clause-from
or_rows_combined-requires-clause-from g c = (row_at g.T.BitBlock.number _ _ _ _ c.self.invariant _
    (ap (λ v. v.rows) c.self.view_is) c.args.from c.requires.from _ _ c.block_count-count.ensures
    c.as_mut_slice.ensures.value).row.inside

pub or_rows_combined-requires-clause-other : goal.or_rows_combined-requires-clause-other
or_rows_combined-requires-clause-other g c =
    sym (length-map c.other.inside.blocks.now g.T.BitBlock.number) ∙ c.other.invariant.count
    ∙ ap (λ n. need n g.T.BitBlock.BITS) (sym (length-unpacking _ _ _) ∙ ap length c.other.view_is
    ∙ c.requires.long ∙ ap (λ v. v.columns) (sym c.self.view_is)) ∙ sym c.block_count-count.ensures

combined : (g : given.Over) (c : After-or_rows_combined g) → HoldCombined g.T.BitBlock.number
    g.T.BitBlock.BITS c.self.inside.rows c.self.inside.columns (take c.self.inside.blocks.len
    (c.or_rows_combined.new.blocks ++ drop (length c.or_rows_combined.new.blocks)
    c.self.inside.blocks.items)) c.args.self.now.rows c.args.into
    (pointwise ◌||◌ (get_or c.args.self.now.rows c.args.into []) (pointwise g.C.Combine.of_bits
    (get_or c.args.self.now.rows c.args.from []) c.args.other.now)) c.or_rows_combined.result
combined g c =
    let number = g.T.BitBlock.number in
    let wide = g.met.T.BitBlock.wide_law in
    let at = row_at number g.T.BitBlock.BITS _ _ _ c.self.invariant _ (ap (λ v. v.rows) c.self.view_is)
    c.args.into c.requires.into _ _ c.block_count-count.ensures c.as_mut_slice.ensures.value in
    let other = row_at number g.T.BitBlock.BITS _ _ _ c.self.invariant _
    (ap (λ v. v.rows) c.self.view_is) c.args.from c.requires.from _ _ c.block_count-count.ensures
    c.as_mut_slice.ensures.value in
    row_or_combined number _ wide at c.requires.into g.T.BitBlock.of_bits
    g.met.T.BitBlock.of_bits_number_law g.C.Combine.of_bits c.requires.none _ _ other.long
    (c.requires.long ∙ ap (λ v. v.columns) (sym c.self.view_is)) _ _
    (packed _ wide _ _ _ other.row.canonical other.bits)
    (packed _ wide _ _ _ c.other.invariant c.other.view_is) c.or_rows_combined.new.blocks _ _
    (take_at c.or_rows_combined.new.blocks _ c.self.inside.blocks.len
    (c.or_rows_combined.auto.blocks ∙ c.as_mut_slice.ensures.len)) c.or_rows_combined.ensures

pub invariant_of-self : goal.invariant_of-self
invariant_of-self g c =
    (combined g (goal.at.invariant_of-self g c).After-or_rows_combined).hold.canonical

pub returns-clause-rows : goal.returns-clause-rows
returns-clause-rows g c = (combined g (goal.at.returns-clause-rows g c).After-or_rows_combined).hold.are

pub returns-clause-changed : goal.returns-clause-changed
returns-clause-changed g c =
    let after = combined g (goal.at.returns-clause-changed g c).After-or_rows_combined in
    rw after.hold.are after.flag

pub returns-clause-more : goal.returns-clause-more
returns-clause-more g c =
    let after = combined g (goal.at.returns-clause-more g c).After-or_rows_combined in
    let long = c.columns-columns.ensures.long in
    let rows = c.args.self.now.rows in
    let as_long = long c.args.from [] c.requires.from ∙ c.columns-columns.ensures.columns
    ∙ sym c.requires.long in
    or_gains rows c.args.into (pointwise g.C.Combine.of_bits (get_or rows c.args.from [])
    c.args.other.now) _ _ c.requires.into (long c.args.into [] c.requires.into
    ∙ sym (long c.args.from [] c.requires.from)
    ∙ sym (length-pointwise g.C.Combine.of_bits (get_or rows c.args.from []) c.args.other.now as_long))
    after.hold.are (rw after.hold.are after.flag)
