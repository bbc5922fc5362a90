-- The item is added, and what the symbol behind its dot brings.
use Rattle.std.proofs.Common.{◌≡◌}
use Rattle.vob_lr.specs.Expansions.{Brings, Gives}
use Rattle.vob_lr.proofs.ClosureLemmas.{Gains-both, Gains-brought, Gains-set, next_row}
use Rattle.vob_lr.proofs.closure.Closures.expand.Goals as goal

pub bring-requires-clause-row : goal.bring-requires-clause-row
bring-requires-clause-row c =
    next_row c.self.inside.items c.self.inside.expansions.rows c.self.invariant c.args.number
    c.next.result c.next.ensures

pub returns : goal.returns
returns c =
    let rules = c.self.inside.items.rules.items in
    let j = c.args.number in
    rw (← c.self.view_is)
    (Gains-both _ _ _ (λ i. j ≡ i) (Brings rules j) (Gives rules j) (λ i. ((λ a. a), (λ a. a)))
    (Gains-set _ _ j c.set.ensures.written)
    (Gains-brought c.self.inside.items c.self.inside.expansions.rows c.self.invariant j c.next.result
    c.next.ensures _ _ c.bring.ensures))
