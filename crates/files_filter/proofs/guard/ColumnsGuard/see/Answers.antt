-- What a row compares is seen.
use Rattle.std.proofs.Common.{◌≡◌, ◌≢◌, [], true, false, rules, subst}
use Rattle.std.specs.Option.{is_some}
use Rattle.csv.specs.Records.{fields_of}
use Rattle.files_filter.specs.Answers.{IsNumeric}
use Rattle.files_filter.proofs.AnswersLemmas.{not_empty}
use Rattle.files_filter.proofs.RefusalsLemmas.{compared_nothing, compared_number, compared_text, is_no_number, is_number}
use Rattle.files_filter.proofs.guard.ColumnsGuard.see.Goals as goal

pub returns-then-is_empty : goal.returns-then-is_empty
returns-then-is_empty g c = λ rows test so.
    compared_nothing (fields_of c.args.table.now.header) rows (fields_of c.args.row.now) test c.args.self.now so

pub returns-then-is_empty-2 : goal.returns-then-is_empty-2
returns-then-is_empty-2 g c = λ rows test so.
    compared_nothing (fields_of c.args.table.now.header) rows (fields_of c.args.row.now) test c.args.self.now so

pub returns-then-is_some : goal.returns-then-is_some
returns-then-is_some g c =
    let some : is_some c.of.result ≡ true = search rules in λ rows test so.
    compared_number (fields_of c.args.table.now.header) rows (fields_of c.args.row.now) test c.args.self.now so
    (subst (λ cell. IsNumeric cell) c.cell-first.ensures (is_number c.of.result _ c.of.ensures.some some))

pub returns-then-is_some-2 : goal.returns-then-is_some-2
returns-then-is_some-2 g c = λ rows test so.
    compared_nothing (fields_of c.args.table.now.header) rows (fields_of c.args.row.now) test c.args.self.now so

pub returns : goal.returns
returns g c =
    let none : is_some c.of.result ≡ false = search rules in λ rows test so.
    compared_text (fields_of c.args.table.now.header) rows (fields_of c.args.row.now) test c.args.self.now so
    c.in_ok-wrong_cell.field-0 (subst (λ cell. cell ≢ []) c.cell-first.ensures
    (not_empty c.cell-first.result.now c.if-is_empty.ensures))
    (subst (λ cell. ¬ IsNumeric cell) c.cell-first.ensures (is_no_number c.of.result _ c.of.ensures.none none))
    c.in_ok-wrong_cell.ensures.name c.in_ok-wrong_cell.ensures.cell
