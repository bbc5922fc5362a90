-- The status and the count are those of the table's conflicts and states.
use Rattle.files_report.proofs.ReportLemmas.{has_report}
use Rattle.files_report.proofs.print.print_report.Goals as goal

pub returns-clause-ok : goal.returns-clause-ok
returns-clause-ok g c =
    has_report c.args.file.now c.status_of.result c.count.result c.in_ok-table.table c.in_ok-states.states
    c.in_ok-conflicts.conflicts c.in_ok-table.ensures.ok c.in_ok-states.ensures c.count.ensures
    c.in_ok-conflicts.ensures c.status_of.ensures
