-- A cell ends, or a row.
use Rattle.std.proofs.Common.{refl}
use Rattle.files_csv.proofs.ProgressLemmas.{cell_more, row_more}
use Rattle.files_csv.proofs.whole.WholeRows.stand.Goals as goal

pub returns-in-End-clause-progress : goal.returns-in-End-clause-progress
returns-in-End-clause-progress g c = λ text at same less has stands.
    row_more g.R.Read.remaining text c.args.self.now _ at c.args.place has less same
    (record { text = refl; filled = refl; given = refl; input = refl; bytes = refl; lines = refl }) refl c.args.next
    c.in-End.is refl refl refl stands

pub returns-in-Start-clause-progress : goal.returns-in-Start-clause-progress
returns-in-Start-clause-progress g c = λ text at same less has stands.
    cell_more g.R.Read.remaining text c.args.self.now _ at c.args.place has less same
    (record { text = refl; filled = refl; given = refl; input = refl; bytes = refl; lines = refl }) refl c.args.next
    c.in-Start.is refl refl refl stands
