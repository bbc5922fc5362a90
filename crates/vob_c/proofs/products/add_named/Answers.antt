-- A row is added where its bit is set.
use Rattle.std.proofs.Common.{[], ◌∙◌, get_or}
use Rattle.vob_c.specs.Rows.{rows_in}
use Rattle.vob_c.proofs.LinkingLemmas.{IsRowLinked-more, IsRowLinked-skip}
use Rattle.vob_c.proofs.RowsLemmas.{added_canonical, added_row, entry_is, row_here, row_packed}
use Rattle.vob_c.proofs.products.add_named.Goals as goal

pub returns-then-not-stored_bit-clause-linked : goal.returns-then-not-stored_bit-clause-linked
returns-then-not-stored_bit-clause-linked c = λ before h.
    IsRowLinked-skip before _ _ c.args.i c.args.k _ h
    (entry_is c.args.sizes.rows c.args.sizes.inner c.args.first.now c.requires.first _
    c.block_count-width.ensures c.args.i c.args.k c.requires.row _ c.words_at.ensures _
    c.stored_bit.ensures ∙ c.if-not-stored_bit.true)

pub returns-clause-canonical : goal.returns-clause-canonical
returns-clause-canonical c =
    let columns = c.args.sizes.columns in
    let second = c.args.second.now in
    added_canonical c.args.sizes.rows columns c.args.made.now c.requires.made _
    c.block_count-count.ensures c.args.i c.requires.row
    (get_or (rows_in c.args.sizes.inner columns second) c.args.k [])
    (row_here c.args.sizes.inner columns second c.requires.second _ c.block_count-count.ensures c.args.k
    c.requires.named).long _
    (row_packed c.args.sizes.inner columns second c.requires.second _ c.block_count-count.ensures
    c.args.k c.requires.named _ c.words_at-2.ensures) _ _ c.add_words.ensures

pub returns-clause-linked : goal.returns-clause-linked
returns-clause-linked c = λ before h.
    let columns = c.args.sizes.columns in
    let second = c.args.second.now in
    IsRowLinked-more before _ _ c.args.i c.args.k _ h _
    (entry_is c.args.sizes.rows c.args.sizes.inner c.args.first.now c.requires.first _
    c.block_count-width.ensures c.args.i c.args.k c.requires.row _ c.words_at.ensures _
    c.stored_bit.ensures ∙ c.if-not-stored_bit.false)
    (added_row c.args.sizes.rows columns c.args.made.now c.requires.made _
    c.block_count-count.ensures c.args.i c.requires.row
    (get_or (rows_in c.args.sizes.inner columns second) c.args.k [])
    (row_here c.args.sizes.inner columns second c.requires.second _ c.block_count-count.ensures c.args.k
    c.requires.named).long _
    (row_packed c.args.sizes.inner columns second c.requires.second _ c.block_count-count.ensures
    c.args.k c.requires.named _ c.words_at-2.ensures) _ _ c.add_words.ensures)
