-- A row more is asked, or refused.
use Rattle.std.proofs.Common.{◌≡◌, ◌++◌, ◌∷◌, [], false, true, inl, inr, rules, subst, sym}
use Rattle.std.proofs.lemmas.Result.{err_from_is_err_and}
use Rattle.csv.specs.Records.{fields_of}
use Rattle.files_filter.specs.Refusals.{RefusesBy}
use Rattle.files_filter.specs.RowFaults.{IsTextFault, below_header, header_of}
use Rattle.files_filter.proofs.AskedLemmas.{asked_more, refused_all, refused_next, watched_by}
use Rattle.files_filter.proofs.ReadingLemmas.{first_rows}
use Rattle.files_filter.proofs.block.next_row.Goals as goal

pub returns-clause-row : goal.returns-clause-row
returns-clause-row g c =
    let found : c.in_ok-next.field-0 ≡ true = search rules in λ text rows has.
    asked_more g.R.Read.remaining text rows c.args.table.now c.next.new.self c.args.questions.now c.answer.new.self
    (fields_of c.next.new.row) has (rw found at c.in_ok-next.ensures.next text rows has.read)
    c.in_ok-next.ensures.header c.in_ok-answer.ensures.tests (c.in_ok-answer.ensures.watched (below_header rows))

pub returns-in_err-next-clause-err : goal.returns-in_err-next-clause-err
returns-in_err-next-clause-err g c =
    let p = err_from_is_err_and c.from_residual.result c.from_residual.ensures.1 in
    rw (p.1, p.2) (λ text rows has. inl (c.in_err-next.ensures.err text rows has.read))

pub returns-in_err-finish-clause-err : goal.returns-in_err-finish-clause-err
returns-in_err-finish-clause-err g c =
    let p = err_from_is_err_and c.from_residual-in_err-finish.result c.from_residual-in_err-finish.ensures.1 in
    let found : c.in_ok-next.field-0 ≡ false = search rules in
    rw (p.1, p.2) (λ text rows has. inr (refused_all text rows c.args.questions.now.tests.items _ has.some
    (rw found at c.in_ok-next.ensures.next text rows has.read)
    (c.in_err-finish.ensures text (header_of rows) (below_header rows) has.watched)))

pub returns-in_err-answer-clause-err : goal.returns-in_err-answer-clause-err
returns-in_err-answer-clause-err g c =
    let p = err_from_is_err_and c.from_residual-in_err-answer.result c.from_residual-in_err-answer.ensures.1 in
    let found : c.in_ok-next.field-0 ≡ true = search rules in
    rw (p.1, p.2) (λ text rows has.
    let remaining = g.R.Read.remaining in
    let read = rw found at c.in_ok-next.ensures.next text rows has.read in
    elim c.in_err-answer.ensures.err [
      | inl memory ↦ inl (subst (IsTextFault text rows) (sym memory)
          (first_rows remaining text rows c.args.table.now has.read))
      | inr refuses ↦ inr (refused_next text rows (fields_of c.next.new.row) c.args.questions.now.tests.items _
          (first_rows remaining text _ c.next.new.self read)
          (watched_by remaining text rows c.args.table.now c.next.new.self c.args.questions.now has
          c.in_ok-next.ensures.header
          (λ h. RefusesBy text h (below_header rows ++ fields_of c.next.new.row ∷ []) c.args.questions.now.tests.items
          c.in_err-answer.field-0.0)
          (refuses text (below_header rows))))
    ])
