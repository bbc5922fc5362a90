-- The bytes at hand come after the rows that are gone.
use Rattle.std.proofs.Common.{◌≡◌, ◌∙◌, ap, arith, sym, take}
use Rattle.files_csv.proofs.PlaceLemmas.{column_there, line_there}
use Rattle.files_csv.proofs.whole.WholeRows.line_and_column.Goals as goal

pub returns : goal.returns
returns g c = λ gone body are inside is.
    let rows = c.args.self.now in
    let text = take c.min.result c.deref.result.now in
    let before = c.without_mark-before.result.now in
    let start = c.without_mark-before.ensures.start in
    let later = c.without_mark-before.ensures.later in
    let all : c.min.result ≡ c.args.at = omega (arith, c.min.ensures, c.len.ensures, inside) in
    let same : take c.args.at rows.text.items ≡ text =
    ap (λ n. take n rows.text.items) (sym all) ∙ ap (take c.min.result) (sym c.deref.ensures.value) in
    let body_is = rw same at is in (
      rw (c.saturating_add.ensures, c.saturating_add-lines.ensures, c.line_feeds.ensures)
          (line_there rows gone text body before are body_is start later),
      c.column.ensures ∙ column_there rows gone text body before are body_is start later,
    )
