-- By what is known of a row, and of rows after a bit of one was written.
use Rattle.vob_c.proofs.RowsLemmas.{row_here, written_canonical, written_entry}
use Rattle.vob_c.proofs.transposes.mark_at.Goals as goal

pub write_at-requires-clause-row : goal.write_at-requires-clause-row
write_at-requires-clause-row c = (row_here c.args.rows c.args.columns c.args.words.now
    c.requires.canonical _ c.block_count.ensures c.args.row c.requires.row).row

pub returns-clause-canonical : goal.returns-clause-canonical
returns-clause-canonical c = written_canonical c.args.rows c.args.columns c.args.words.now
    c.requires.canonical _ c.block_count.ensures c.args.row c.args.column c.requires.row
    c.requires.column _ _ c.write_at.ensures

pub returns-clause-written : goal.returns-clause-written
returns-clause-written c = written_entry c.args.rows c.args.columns c.args.words.now
    c.requires.canonical _ c.block_count.ensures c.args.row c.args.column c.requires.row
    c.requires.column _ _ c.write_at.ensures
