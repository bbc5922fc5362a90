-- What a row becomes, and that the flag counts, by what the call to combine leaves.
use Rattle.std.proofs.Common.{sym, ◌∙◌, []}
use Rattle.vob_rows.proofs.PartLemmas.{or_each, or_gains}
use Rattle.vob_rows.proofs.rows.BitRows.or_with.Goals as goal

pub returns-clause-more : goal.returns-clause-more
returns-clause-more g c = or_gains c.args.self.now.rows c.args.i c.args.other.now _ _ c.requires.row
    (c.columns-columns.ensures.long c.args.i [] c.requires.row ∙ c.columns-columns.ensures.columns
    ∙ sym c.requires.long) c.combine.ensures.rows c.combine.ensures.changed

pub returns-clause-each : goal.returns-clause-each
returns-clause-each g c = or_each c.args.self.now.rows c.args.i c.args.other.now _ c.requires.row
    (c.columns-columns.ensures.long c.args.i [] c.requires.row ∙ c.columns-columns.ensures.columns
    ∙ sym c.requires.long) c.combine.ensures.rows
