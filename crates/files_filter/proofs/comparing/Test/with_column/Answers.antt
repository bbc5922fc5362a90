-- The second cell isn't empty.
use Rattle.std.proofs.Common.{◌∙◌}
use Rattle.csv.specs.Records.{fields_of}
use Rattle.files_filter.specs.Answers.{cell_at}
use Rattle.files_filter.proofs.AnswersLemmas.{both_answer, not_empty}
use Rattle.files_filter.proofs.comparing.Test.with_column.Goals as goal

pub returns-clause-ok : goal.returns-clause-ok
returns-clause-ok g c = both_answer c.args.relation (cell_at (fields_of c.args.row.now) c.args.self.now.place)
    (cell_at (fields_of c.args.row.now) c.args.place) (λ none. not_empty c.cell.result.now c.if-is_empty.ensures (c.cell.ensures ∙ none)) c.in_ok-order.order
    c.in_ok-order.ensures.ok c.holds.result c.holds.ensures
