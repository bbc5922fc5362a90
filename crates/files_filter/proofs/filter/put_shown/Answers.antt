-- The rows stand below their header.
use Rattle.std.proofs.Common.{◌<◌, ◌^◌, inl, inr, rules}
use Rattle.std.proofs.lemmas.Result.{err_from_is_err_and}
use Rattle.csv.specs.Records.{fields_of}
use Rattle.files_filter.proofs.FilteredLemmas.{shown_all, shown_first}
use Rattle.files_filter.proofs.filter.put_shown.Goals as goal

pub returns-clause-ok : goal.returns-clause-ok
returns-clause-ok g c = λ text has.
    let fits : c.in_ok-count.count < 2 ^ 64 = search rules in
    shown_all text (fields_of c.args.table.now.header) c.args.questions.now.tests.items c.args.expression.now
    c.args.layout.now c.args.shows c.of-window.result.skip c.of-window.result.most _ _ _ c.in_ok-count.count c.of-window.ensures fits
    c.in_ok-put_heading.ensures.ok (c.in_ok-count.ensures.ok text _ has)

pub returns-in_err-count-clause-err : goal.returns-in_err-count-clause-err
returns-in_err-count-clause-err g c =
    let p = err_from_is_err_and c.from_residual-in_err-count.result c.from_residual-in_err-count.ensures.1 in
    rw (p.1, p.2) (elim c.in_err-count.ensures.err [
      | inl none ↦ inl none
      | inr written ↦ inr (λ text has.
          shown_first text (fields_of c.args.table.now.header) c.args.questions.now.tests.items c.args.expression.now
          c.args.layout.now c.args.shows c.of-window.result.skip c.of-window.result.most _ _ _ _ c.of-window.ensures
          c.in_ok-put_heading.ensures.ok (written text _ has))
    ])
