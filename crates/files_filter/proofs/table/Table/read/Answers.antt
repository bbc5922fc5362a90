-- The header is the first row.
use Rattle.std.proofs.Common.{◌≡◌, ◌∷◌, [], inl, inr, refl, rules, true}
use Rattle.std.proofs.lemmas.Result.{err_from_is_err_and}
use Rattle.csv.specs.Records.{fields_of}
use Rattle.files_filter.specs.Reading.{delimited}
use Rattle.files_filter.proofs.ReadingLemmas.{first_rows, header_fault, memory_fault, same_reader, twice_fault}
use Rattle.files_filter.proofs.table.Table.read.Goals as goal

pub returns-in_err-next-clause-err : goal.returns-in_err-next-clause-err
returns-in_err-next-clause-err g c =
    let p = err_from_is_err_and c.from_residual.result c.from_residual.ensures.1 in
    let text = delimited c.args.delimiter (g.R.Read.remaining c.args.input) in
    rw (p.1, p.2) (header_fault text c.in_err-next.field-0.0 (c.in_err-next.ensures.err text [] c.new-table.ensures))

pub returns-clause-ok : goal.returns-clause-ok
returns-clause-ok g c =
    let remaining = g.R.Read.remaining in
    let text = delimited c.args.delimiter (remaining c.args.input) in
    let found : c.in_ok-next.field-0 ≡ true = search rules in
    same_reader remaining text (fields_of c.next.new.row ∷ []) c.next.new.self _ refl
    (rw found at c.in_ok-next.ensures.next text [] c.new-table.ensures)

pub returns-in_err-check_names-clause-err : goal.returns-in_err-check_names-clause-err
returns-in_err-check_names-clause-err g c =
    let p = err_from_is_err_and c.from_residual-in_err-check_names.result c.from_residual-in_err-check_names.ensures.1 in
    let remaining = g.R.Read.remaining in
    let text = delimited c.args.delimiter (remaining c.args.input) in
    let header = fields_of c.next.new.row in
    let found : c.in_ok-next.field-0 ≡ true = search rules in
    let first = first_rows remaining text (header ∷ []) c.next.new.self
    (rw found at c.in_ok-next.ensures.next text [] c.new-table.ensures) in
    rw (p.1, p.2) (elim c.in_err-check_names.ensures.err [
      | inl memory ↦ memory_fault text c.in_err-check_names.field-0.0 memory
      | inr twice ↦ twice_fault text header c.in_err-check_names.field-0.0 first twice
    ])
