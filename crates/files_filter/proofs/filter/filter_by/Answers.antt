-- What is shown, and then how many rows are kept.
use Rattle.std.proofs.Common.{inl, inr, refl, rules, ap, ◌∙◌, subst}
use Rattle.std.specs.Io.KnownBytes.{Appends, Keeps}
use Rattle.csv.specs.Records.{fields_of}
use Rattle.files_filter.specs.Reading.{delimited}
use Rattle.files_filter.proofs.ReadingLemmas.{first_rows}
use Rattle.std.proofs.lemmas.Result.{err_from_is_err_and}
use Rattle.files_text.proofs.PrintedLemmas.{Appends-both}
use Rattle.files_filter.specs.Filtered.{count_line, status_of}
use Rattle.files_filter.proofs.filter.filter_by.Goals as goal

pub returns-clause-ok : goal.returns-clause-ok
returns-clause-ok g c =
    let header = fields_of c.in_ok-table.table.header in
    let old = g.W.Write.contents c.args.output.now in
    let middle = g.W.Write.contents c.put_shown.new.output in
    let new = g.W.Write.contents c.put_count.new.output in
    let so = c.in_ok-count.ensures.ok (delimited c.args.format.now.delimiter (g.R.Read.remaining c.args.input)) (record {
      read = c.in_ok-table.ensures.ok;
      some = λ same. cc same;
      header = refl;
      watched = c.in_ok-questions.ensures.watched header;
    }) in record {
      header = header;
      tests = c.in_ok-questions.questions.tests.items;
      layout = c.in_ok-layout.layout;
      rows = so.rows;
      names = c.in_ok-table.ensures.names;
      tests_are = c.in_ok-questions.ensures.ok;
      layout_is = c.in_ok-layout.ensures.ok;
      all = so.all;
      answers = so.answers;
      wrote = Appends-both old middle new _ _ so.wrote
          (subst (λ found. Appends middle new (count_line c.args.shows found)) so.count c.in_ok-put_count.ensures.wrote);
      status_is = c.in_ok-put_count.ensures.status ∙ ap (status_of c.args.shows) so.count;
    }

pub returns-in_err-questions-clause-err : goal.returns-in_err-questions-clause-err
returns-in_err-questions-clause-err g c =
    let p = err_from_is_err_and c.from_residual-in_err-questions.result c.from_residual-in_err-questions.ensures.1 in
    let keeps : Keeps (g.W.Write.contents c.args.output.now) (g.W.Write.contents c.args.output.now) = search rules in
    let first = first_rows g.R.Read.remaining (delimited c.args.format.now.delimiter (g.R.Read.remaining c.args.input)) _ c.in_ok-table.table c.in_ok-table.ensures.ok in
    rw (p.1, p.2) (elim c.in_err-questions.ensures.err [
      | inl none ↦ inl none
      | inr vain ↦ inr (inl (
        inr (inl (record { header = fields_of c.in_ok-table.table.header; first = first; asks = vain })),
        keeps,
      ))
    ])

pub returns-in_err-layout-clause-err : goal.returns-in_err-layout-clause-err
returns-in_err-layout-clause-err g c =
    let p = err_from_is_err_and c.from_residual-in_err-layout.result c.from_residual-in_err-layout.ensures.1 in
    let keeps : Keeps (g.W.Write.contents c.args.output.now) (g.W.Write.contents c.args.output.now) = search rules in
    let first = first_rows g.R.Read.remaining (delimited c.args.format.now.delimiter (g.R.Read.remaining c.args.input)) _
    c.in_ok-table.table c.in_ok-table.ensures.ok in
    rw (p.1, p.2) (elim c.in_err-layout.ensures.err [
      | inl memory ↦ inl (rw memory tt)
      | inr bad ↦ inr (inl (
        inr (inr (record { header = fields_of c.in_ok-table.table.header; first = first; layout = bad })),
        keeps,
      ))
    ])

pub returns-in_err-count-clause-err : goal.returns-in_err-count-clause-err
returns-in_err-count-clause-err g c =
    let p = err_from_is_err_and c.from_residual-in_err-count.result c.from_residual-in_err-count.ensures.1 in
    let header = fields_of c.in_ok-table.table.header in
    rw (p.1, p.2) (elim c.in_err-count.ensures.err [
      | inl none ↦ inl none
      | inr written ↦ inr (inr (record {
        header = header;
        tests = c.in_ok-questions.questions.tests.items;
        layout = c.in_ok-layout.layout;
        names = c.in_ok-table.ensures.names;
        tests_are = c.in_ok-questions.ensures.ok;
        layout_is = c.in_ok-layout.ensures.ok;
        written = written (delimited c.args.format.now.delimiter (g.R.Read.remaining c.args.input)) (record {
          read = c.in_ok-table.ensures.ok;
          some = λ same. cc same;
          header = refl;
          watched = c.in_ok-questions.ensures.watched header;
        });
      }))
    ])
