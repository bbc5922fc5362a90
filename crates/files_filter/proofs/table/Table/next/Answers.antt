-- A row more, or all were read.
use Rattle.files_filter.proofs.ReadingLemmas.{lost_row, reads_next}
use Rattle.files_filter.proofs.table.Table.next.Goals as goal

pub returns-in-Ok-clause-next : goal.returns-in-Ok-clause-next
returns-in-Ok-clause-next g c = λ text rows has.
    reads_next g.R.Read.remaining text rows c.args.self.now _ c.in-Ok.found _ has
    (c.in-Ok.ensures.reads has.trim has.ready) (c.in-Ok.ensures.ready has.trim)
    c.in-Ok.ensures.flexible

pub returns-in-Err-clause-err : goal.returns-in-Err-clause-err
returns-in-Err-clause-err g c = λ text rows has.
    lost_row g.R.Read.remaining text rows c.args.self.now c.read_byte_record.new.self _ _ has
    (c.in-Err.ensures.why has.ready) c.no_row.ensures
