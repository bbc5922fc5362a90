-- A name is added, or found.
use Rattle.std.proofs.Common.{◌≡◌, ◌≢◌, ◌∙◌, [], Some, false, inr, length, rules, subst, sym, true}
use Rattle.std.specs.Prelude.{IfSome, slice_get, string_bytes}
use Rattle.std.specs.List.{Contains}
use Rattle.std.specs.Option.{is_some}
use Rattle.csv.specs.Records.{fields_of}
use Rattle.files_text.specs.Names.{IsNumbered}
use Rattle.files_filter.specs.Refusals.{IsShown}
use Rattle.files_filter.proofs.AnswersLemmas.{not_empty}
use Rattle.files_filter.proofs.HeaderLemmas.{empty_more, empty_text, found_none, name_found, name_more}
use Rattle.files_filter.proofs.table.Table.add_name.Goals as goal

pub returns-then-is_empty-clause-ok : goal.returns-then-is_empty-clause-ok
returns-then-is_empty-clause-ok g c = λ hold.
    let none : length c.cell-name.result.now ≡ 0 = search rules in
    empty_more c.args.names.now (fields_of c.args.self.now.header) c.args.place hold c.requires
    (sym c.cell-name.ensures ∙ empty_text c.cell-name.result.now none)

pub returns-clause-ok : goal.returns-clause-ok
returns-clause-ok g c = λ hold.
    let none : is_some c.find.result ≡ false = search rules in
    name_more c.args.names.now (fields_of c.args.self.now.header) c.args.place hold c.in_ok-number.field-0
    c.number.new.self c.requires
    (subst (λ name. name ≢ []) c.cell-name.ensures (not_empty c.cell-name.result.now c.if-is_empty.ensures))
    (subst (λ name. ¬ Contains c.args.names.now name) c.cell-name.ensures
    (found_none c.find.result _ c.find.ensures.none none))
    (subst (λ name. IsNumbered c.args.names.now name c.in_ok-number.field-0 c.number.new.self) c.cell-name.ensures
    c.in_ok-number.ensures)

pub returns-then-is_some-clause-err : goal.returns-then-is_some-clause-err
returns-then-is_some-clause-err g c = λ hold.
    let header = fields_of c.args.self.now.header in
    let found : is_some c.find.result ≡ true = search rules in
    inr (
      name_found c.args.names.now header c.args.place hold c.find.result
          (subst (λ name. name ≢ []) c.cell-name.ensures (not_empty c.cell-name.result.now c.if-is_empty.ensures))
          (subst (λ name. IfSome c.find.result (λ number. slice_get c.args.names.now number ≡ Some name))
          c.cell-name.ensures c.find.ensures.some) found,
      subst (λ name. IsShown name (string_bytes c.in_ok-shown.field-0)) c.cell-name.ensures c.in_ok-shown.ensures,
    )
