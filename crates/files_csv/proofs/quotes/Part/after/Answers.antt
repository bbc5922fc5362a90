-- A cell goes on, or ends. Bytes that aren't the mark's begin one.
use Rattle.std.proofs.Common.{◌≡◌, [], arith, inr, refl}
use Rattle.files_csv.specs.Rows.AreCells.{none}
use Rattle.files_csv.proofs.PartLemmas.{body_more, goes_on, in_cell, mark_begins}
use Rattle.files_csv.proofs.quotes.Part.after.Goals as goal

pub returns-in_default : goal.returns-in_default
returns-in_default c = λ seen start stands.
    let now = in_cell c.args.self seen start c.in_default.not-Mark stands in
    goes_on seen now.cells now.cell c.args.byte start (body_more seen _ _ now.body) now.each now.start_is
    (λ word. word.now) c.in_row.result (c.in_row.ensures now.cell now.begins)

pub returns-in-None : goal.returns-in-None
returns-in-None c = λ seen start stands.
    let now = rw c.in-Mark.is at stands in
    let none_read : seen ≡ [] = rw c.if-count-eq0.true at now.1 in
    let bare = c.in-None.ensures seen (now.0, now.1, refl) in
    goes_on seen [] seen c.args.byte start (inr (refl, bare)) none (omega (arith, now.2)) (λ word. word.now)
    c.in_row-in-None.result (c.in_row-in-None.ensures seen none_read)

pub returns-in-None-2 : goal.returns-in-None-2
returns-in-None-2 c = λ seen start stands.
    let now = rw c.in-Mark.is at stands in
    let bare = c.in-None.ensures seen (now.0, now.1, refl) in
    goes_on seen [] seen c.args.byte start (inr (refl, bare)) none (omega (arith, now.2)) (λ word. word.now)
    c.in_row-in-None-2.result
    (c.in_row-in-None-2.ensures seen (mark_begins c.in-Mark.count seen now.0 c.if-count-eq0.false now.1))
