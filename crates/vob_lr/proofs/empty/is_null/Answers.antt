-- The bit of a nonterminal, false where there is none.
use Rattle.std.proofs.Common.{◌∙◌, ap, false, unwrap_or}
use Rattle.std.proofs.lemmas.Option.{unwrap_or-slice_get}
use Rattle.vob_lr.proofs.empty.is_null.Goals as goal

pub returns-in-Nonterminal : goal.returns-in-Nonterminal
returns-in-Nonterminal c =
    let bit = c.unwrap_or.ensures ∙ ap (λ o. unwrap_or o false) c.get.ensures.bit
    ∙ unwrap_or-slice_get c.args.nullable.now.bits _ false in
    rw (c.in-Nonterminal.is, bit) (λ e. e, λ e. e)
