-- The byte is refused, or it is one more.
use Rattle.std.proofs.Common.{◌≡◌, ◌∙◌, ◌++◌, ◌+◌, ◌<◌, ◌≤◌, arith, get_or, length, refl, take}
use Rattle.std.proofs.lemmas.List.{get_or_default}
use Rattle.files_csv.proofs.ProgressLemmas.{before_byte, byte_refused, seen_more}
use Rattle.files_csv.proofs.whole.WholeRows.refuses.Goals as goal

pub returns-in-Err-clause-progress : goal.returns-in-Err-clause-progress
returns-in-Err-clause-progress g c = λ text less has.
    let rows = c.args.self.now in
    let long : c.args.at < length rows.text.items = omega (arith, less, has.read.inside) in
    let byte : c.index.result.now ≡ get_or rows.text.items c.args.at 0 =
    c.index.ensures ∙ get_or_default rows.text.items c.args.at c.index.result.now 0 long in
    let cant = rw byte at (c.in-Err.ensures (has.gone ++ take c.args.at rows.text.items)
    (length has.gone + rows.cell) has.stands) in
    let inside : c.args.at ≤ length rows.text.items = omega (arith, less, has.read.inside) in
    byte_refused g.R.Read.remaining text rows c.args.at has less c.refuse.new.self _ cant
    (c.refuse.ensures.refused has.gone (cant.cells ++ cant.cell) has.read.gone_are inside
    (before_byte g.R.Read.remaining text rows c.args.at has less _ cant))

pub returns-clause-progress : goal.returns-clause-progress
returns-clause-progress g c = λ text less has.
    let rows = c.args.self.now in
    let long : c.args.at < length rows.text.items = omega (arith, less, has.read.inside) in
    let byte : c.index.result.now ≡ get_or rows.text.items c.args.at 0 =
    c.index.ensures ∙ get_or_default rows.text.items c.args.at c.index.result.now 0 long in
    let next = rw byte at (c.in-Ok.ensures (has.gone ++ take c.args.at rows.text.items)
    (length has.gone + rows.cell) has.stands) in
    c.stand.ensures.progress text c.args.at refl less has
    (rw (seen_more g.R.Read.remaining text rows c.args.at has less) next)
