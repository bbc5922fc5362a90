-- A cell goes on, or ends.
use Rattle.std.proofs.Common.{subst}
use Rattle.files_csv.specs.Parts.{Begins}
use Rattle.files_csv.proofs.PartLemmas.{quote_more, return_ends, row_ends}
use Rattle.files_csv.proofs.quotes.Part.in_row.Goals.{in_default-eq10-via-in-Quote, in_default-eq10-via-in-Start, in_default-eq10-via-in_default}
use Rattle.files_csv.proofs.quotes.Part.in_row.Goals as goal

pub returns-in-Return-eq10 : goal.returns-in-Return-eq10
returns-in-Return-eq10 c = λ cell begins.
    return_ends c.args.self cell c.args.byte c.in-Return-eq10.is-0 c.in-Return-eq10.is-1 begins

pub returns-in_default-eq10 : goal.returns-in_default-eq10
returns-in_default-eq10 c = elim c.in_default-eq10.branch [
  | in_default-eq10-via-in-Quote w ↦ let h = w.in_default-eq10 in λ cell begins.
      row_ends c.args.self cell c.args.byte h.is-1 h.not-Quoted-0 h.not-Return-0 begins
  | in_default-eq10-via-in-Start w ↦ let h = w.in_default-eq10 in λ cell begins.
      row_ends c.args.self cell c.args.byte h.is-1 h.not-Quoted-0 h.not-Return-0 begins
  | in_default-eq10-via-in_default w ↦ let h = w.in_default-eq10 in λ cell begins.
      row_ends c.args.self cell c.args.byte h.is-1 h.not-Quoted-0 h.not-Return-0 begins
]

pub returns-in-Quote-eq34 : goal.returns-in-Quote-eq34
returns-in-Quote-eq34 c = λ cell begins.
    quote_more c.args.self cell c.args.byte c.in-Quote-eq34.is-0 c.in-Quote-eq34.is-1 begins

pub returns-in-Quoted-default : goal.returns-in-Quoted-default
returns-in-Quoted-default c = λ cell begins.
    c.in_quotes.ensures cell (subst (λ part. Begins part cell) c.in-Quoted-default.is-0 begins)
