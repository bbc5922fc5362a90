-- A cell isn't the number that it is compared with.
use Rattle.std.proofs.Common.{◌≡◌, ◌≢◌, [], inr, rules, subst}
use Rattle.csv.specs.Records.{fields_of}
use Rattle.files_filter.specs.Answers.{IsNumeric}
use Rattle.files_filter.specs.declared.comparing.Kind.TheVariants.{Compared}
use Rattle.files_filter.specs.declared.comparing.Other.TheVariants as other
use Rattle.files_filter.proofs.AnswersLemmas.{not_empty}
use Rattle.files_filter.proofs.RefusalsLemmas.{needs_number}
use Rattle.files_filter.proofs.comparing.Test.value.Goals as goal

pub returns-in_ok-wrong_cell-in-None-clause-err : goal.returns-in_ok-wrong_cell-in-None-clause-err
returns-in_ok-wrong_cell-in-None-clause-err g c =
    let wrong = c.in_ok-wrong_cell-in-None in
    let compared = c.in-Compared-default-Number in
    let kind : c.args.self.now.kind ≡ Compared compared.relation (other.Number compared.number) = search rules in
    inr (λ text rows. needs_number text (fields_of c.args.table.now.header) rows (fields_of c.args.row.now)
    c.args.self.now compared.relation compared.number wrong.field-0
    kind
    (record {
      some = subst (λ cell. cell ≢ []) c.cell-first.ensures (not_empty c.cell-first.result.now c.if-is_empty.ensures);
      text = subst (λ cell. ¬ IsNumeric cell) c.cell-first.ensures c.in-None.ensures.none;
      name = wrong.ensures.name;
      cell = wrong.ensures.cell;
    }))
