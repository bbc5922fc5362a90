-- By what is known of both rows, and of rows after one was combined.
use Rattle.std.proofs.Common.{ap, sym, ◌∙◌, ◌++◌, ◌||◌, refl, length, take, drop, set, get_or, []}
use Rattle.std.proofs.lemmas.List.{set-get_or, take_at}
use Rattle.vob_block.specs.Pointwise.{pointwise}
use Rattle.vob_rows.proofs.PartLemmas.{HoldCombined, or_each, or_gains, or_itself, packed, row_at, row_combined}
use Rattle.vob_rows.proofs.rows.BitRows.or_row.Given as given
use Rattle.vob_rows.proofs.rows.BitRows.or_row.Goals as goal
use Rattle.vob_rows.proofs.rows.BitRows.or_row.Goals.{After-or_rows}

pub returns-then-into-from-clause-rows : goal.returns-then-into-from-clause-rows
returns-then-into-from-clause-rows g c =
    let rows = c.args.self.now.rows in
    sym (ap (λ k. set rows c.args.into (pointwise ◌||◌ (get_or rows c.args.into []) (get_or rows k [])))
    (sym c.if-into-from.true) ∙ ap (set rows c.args.into) (or_itself (get_or rows c.args.into []))
    ∙ set-get_or rows c.args.into [])

pub or_rows-requires-clause-into : goal.or_rows-requires-clause-into
or_rows-requires-clause-into g c = (row_at g.T.BitBlock.number _ _ _ _ c.self.invariant _
    (ap (λ v. v.rows) c.self.view_is) c.args.into c.requires.into _ _ c.block_count-count.ensures
    c.as_mut_slice.ensures.value).row.inside

pub or_rows-requires-clause-from : goal.or_rows-requires-clause-from
or_rows-requires-clause-from g c = (row_at g.T.BitBlock.number _ _ _ _ c.self.invariant _
    (ap (λ v. v.rows) c.self.view_is) c.args.from c.requires.from _ _ c.block_count-count.ensures
    c.as_mut_slice.ensures.value).row.inside

combined : (g : given.Over) (c : After-or_rows g) → HoldCombined g.T.BitBlock.number g.T.BitBlock.BITS
    c.self.inside.rows c.self.inside.columns (take c.self.inside.blocks.len (c.or_rows.new.blocks
    ++ drop (length c.or_rows.new.blocks) c.self.inside.blocks.items)) c.args.self.now.rows c.args.into
    (pointwise ◌||◌ (get_or c.args.self.now.rows c.args.into [])
    (get_or c.args.self.now.rows c.args.from [])) c.or_rows.result
combined g c =
    let number = g.T.BitBlock.number in
    let wide = g.met.T.BitBlock.wide_law in
    let at = row_at number g.T.BitBlock.BITS _ _ _ c.self.invariant _ (ap (λ v. v.rows) c.self.view_is)
    c.args.into c.requires.into _ _ c.block_count-count.ensures c.as_mut_slice.ensures.value in
    let other = row_at number g.T.BitBlock.BITS _ _ _ c.self.invariant _
    (ap (λ v. v.rows) c.self.view_is) c.args.from c.requires.from _ _ c.block_count-count.ensures
    c.as_mut_slice.ensures.value in
    row_combined number _ wide at c.requires.into g.T.BitBlock.of_bits
    g.met.T.BitBlock.of_bits_number_law ◌||◌ refl _ other.long _
    (packed _ wide _ _ _ other.row.canonical other.bits) c.or_rows.new.blocks _ _
    (take_at c.or_rows.new.blocks _ c.self.inside.blocks.len
    (c.or_rows.auto.blocks ∙ c.as_mut_slice.ensures.len)) c.or_rows.ensures

pub invariant_of-self : goal.invariant_of-self
invariant_of-self g c = (combined g (goal.at.invariant_of-self g c).After-or_rows).hold.canonical

pub returns-clause-rows : goal.returns-clause-rows
returns-clause-rows g c = (combined g (goal.at.returns-clause-rows g c).After-or_rows).hold.are

pub returns-clause-changed : goal.returns-clause-changed
returns-clause-changed g c =
    let after = combined g (goal.at.returns-clause-changed g c).After-or_rows in
    rw after.hold.are after.flag

pub returns-clause-more : goal.returns-clause-more
returns-clause-more g c =
    let after = combined g (goal.at.returns-clause-more g c).After-or_rows in
    let long = c.columns-columns.ensures.long in
    or_gains c.args.self.now.rows c.args.into (get_or c.args.self.now.rows c.args.from []) _ _
    c.requires.into (long c.args.into [] c.requires.into ∙ sym (long c.args.from [] c.requires.from))
    after.hold.are (rw after.hold.are after.flag)

pub returns-then-into-from-clause-each : goal.returns-then-into-from-clause-each
returns-then-into-from-clause-each g c =
    let long = c.columns-columns.ensures.long in
    or_each c.args.self.now.rows c.args.into (get_or c.args.self.now.rows c.args.from []) _
    c.requires.into (long c.args.into [] c.requires.into ∙ sym (long c.args.from [] c.requires.from))
    (returns-then-into-from-clause-rows g c)

pub returns-clause-each : goal.returns-clause-each
returns-clause-each g c =
    let after = combined g (goal.at.returns-clause-each g c).After-or_rows in
    let long = c.columns-columns.ensures.long in
    or_each c.args.self.now.rows c.args.into (get_or c.args.self.now.rows c.args.from []) _
    c.requires.into (long c.args.into [] c.requires.into ∙ sym (long c.args.from [] c.requires.from))
    after.hold.are
