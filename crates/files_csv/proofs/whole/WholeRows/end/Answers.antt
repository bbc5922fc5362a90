-- A last cell ends, or can't.
use Rattle.std.proofs.Common.{inl, inr, refl}
use Rattle.files_csv.proofs.ProgressLemmas.{feed_missing, quote_open, text_ends}
use Rattle.files_csv.proofs.whole.WholeRows.end.Goals as goal

pub returns-in-Quoted-clause-progress : goal.returns-in-Quoted-clause-progress
returns-in-Quoted-clause-progress g c = λ text none end has.
    inr (inr (quote_open g.R.Read.remaining text c.args.self.now c.refuse.new.self has none end _ c.in-Quoted.is refl
    c.refuse.ensures.refused))

pub returns-in-Return-clause-progress : goal.returns-in-Return-clause-progress
returns-in-Return-clause-progress g c = λ text none end has.
    inr (inr (feed_missing g.R.Read.remaining text c.args.self.now c.refuse-in-Return.new.self has none end _
    c.in-Return.is refl c.refuse-in-Return.ensures.refused))

pub returns-in_default-clause-progress : goal.returns-in_default-clause-progress
returns-in_default-clause-progress g c = λ text none end has.
    inr (inl (text_ends g.R.Read.remaining text c.args.self.now _ has none end c.in_default.not-Quoted
    c.in_default.not-Return
    (record { text = refl; filled = refl; given = refl; input = refl; bytes = refl; lines = refl }) refl refl refl))
