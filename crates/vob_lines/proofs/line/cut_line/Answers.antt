-- The first line ends at the first line feed, or with the text.
use Rattle.std.proofs.Common.{sym, ◌+◌, ◌∙◌, arith}
use Rattle.std.proofs.lemmas.List.{take_rest}
use Rattle.vob_lines.proofs.CutLemmas.{lines_of-last, lines_of-first}
use Rattle.vob_lines.proofs.line.cut_line.Goals as goal

-- there is no line feed
pub returns-then-end-text-clause-line : goal.returns-then-end-text-clause-line
returns-then-end-text-clause-line c =
    let place = sym c.first_place-end.ensures.place ∙ c.if-end-text.true in
    lines_of-last c.args.text.now place c.requires

pub returns-clause-line : goal.returns-clause-line
returns-clause-line c =
    let end = c.first_place-end.result in
    let after = take_rest c.args.text.now (end + 1) in
    lines_of-first c.args.text.now end _ _ c.first_place-end.ensures.place (omega arith)
    c.without_return.ensures after
