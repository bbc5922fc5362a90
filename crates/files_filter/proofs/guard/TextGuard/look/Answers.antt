-- A number was seen.
use Rattle.std.proofs.Common.{◌≡◌, true, rules, subst}
use Rattle.std.specs.Option.{is_some}
use Rattle.csv.specs.Records.{fields_of}
use Rattle.files_filter.specs.Answers.{IsNumeric}
use Rattle.files_filter.proofs.RefusalsLemmas.{is_number, saw_number}
use Rattle.files_filter.proofs.guard.TextGuard.look.Goals as goal

pub returns-clause-ok : goal.returns-clause-ok
returns-clause-ok c =
    let some : is_some c.of.result ≡ true = search rules in λ header rows test so.
    saw_number header rows (fields_of c.args.row.now) test c.args.self.now so
    (subst (λ cell. IsNumeric cell) c.cell-cell.ensures (is_number c.of.result _ c.of.ensures.some some))
