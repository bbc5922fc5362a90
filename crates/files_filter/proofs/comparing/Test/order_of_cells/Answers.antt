-- One cell is a number, and the other is none.
use Rattle.std.proofs.Common.{inr, rules, subst}
use Rattle.csv.specs.Records.{fields_of}
use Rattle.files_filter.specs.Answers.{IsNumeric}
use Rattle.files_filter.specs.Refusals.{IsOrdering}
use Rattle.files_filter.proofs.RefusalsLemmas.{first_is_text, second_is_text}
use Rattle.files_filter.proofs.comparing.Test.order_of_cells.Goals as goal

pub returns-in_ok-wrong_cell-in-Some-None-clause-err : goal.returns-in_ok-wrong_cell-in-Some-None-clause-err
returns-in_ok-wrong_cell-in-Some-None-clause-err g c =
    let wrong = c.in_ok-wrong_cell-in-Some-None in
    let order : IsOrdering c.args.relation = c.is_order.ensures.0 c.if-is_order.true in
    let number : IsNumeric c.cell-first.result.now = (c.in-Some-None.field-0-0, c.in-Some-None.ensures.some) in
    inr (λ text rows. second_is_text text (fields_of c.args.table.now.header) rows (fields_of c.args.row.now)
    c.args.self.now c.args.relation c.args.place wrong.field-0 c.requires.kind order
    (subst (λ cell. IsNumeric cell) c.cell-first.ensures number)
    (record {
      some = c.requires.second;
      text = subst (λ cell. ¬ IsNumeric cell) c.cell-second.ensures c.in-Some-None.ensures'.none;
      name = wrong.ensures.name;
      cell = wrong.ensures.cell;
    }))

pub returns-in_ok-wrong_cell-in-None-Some-clause-err : goal.returns-in_ok-wrong_cell-in-None-Some-clause-err
returns-in_ok-wrong_cell-in-None-Some-clause-err g c =
    let wrong = c.in_ok-wrong_cell-in-None-Some in
    let order : IsOrdering c.args.relation = search rules in
    let number : IsNumeric c.cell-second.result.now = (c.in-None-Some.field-0-1, c.in-None-Some.ensures'.some) in
    inr (λ text rows. first_is_text text (fields_of c.args.table.now.header) rows (fields_of c.args.row.now)
    c.args.self.now c.args.relation c.args.place wrong.field-0 c.requires.kind order
    (subst (λ cell. IsNumeric cell) c.cell-second.ensures number)
    (record {
      some = c.requires.first;
      text = subst (λ cell. ¬ IsNumeric cell) c.cell-first.ensures c.in-None-Some.ensures.none;
      name = wrong.ensures.name;
      cell = wrong.ensures.cell;
    }))
