-- The row of the nonterminal is added.
use Rattle.std.proofs.Common.{◌<◌, ◌∙◌, [], List, Bool, ap, length, subst}
use Rattle.vob_lr.specs.Expansions.{Gains, Has}
use Rattle.vob_lr.proofs.ClosureLemmas.{Gains-or}
use Rattle.vob_lr.proofs.closure.bring_by.Goals as goal

pub row-requires : goal.row-requires
row-requires c = rw c.in-Nonterminal.is at c.requires.row

pub or_into-requires : goal.or_into-requires
or_into-requires c =
    let low : c.in-Nonterminal.nonterminal < length c.args.expansions.now.rows =
    rw c.in-Nonterminal.is at c.requires.row in
    ap length c.row.ensures.bits ∙ c.requires.long c.in-Nonterminal.nonterminal [] low

pub returns-in-Nonterminal : goal.returns-in-Nonterminal
returns-in-Nonterminal c =
    rw c.in-Nonterminal.is (subst (λ (bits : List Bool). Gains (Has bits) c.args.made.now.bits c.or_into.new.vob.bits)
    c.row.ensures.bits (Gains-or _ _ c.row.result c.or_into.ensures.each))
