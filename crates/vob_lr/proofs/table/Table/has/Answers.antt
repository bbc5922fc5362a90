-- The action is one of the cell.
use Rattle.std.proofs.Common.{◌∙◌, List, ℕ, ap, sym}
use Rattle.vob_flow.proofs.PartsLemmas.{has_is}
use Rattle.vob_flow.specs.Lists.{has}
use Rattle.vob_lr.specs.declared.table.Action.TheVariants.{Reduce, Shift}
use Rattle.vob_lr.proofs.LeftOutLemmas.{has_at, same_option}
use Rattle.vob_lr.proofs.table.Table.has.Goals as goal

pub returns-in-Shift : goal.returns-in-Shift
returns-in-Shift c =
    let cell = c.in-Some.cell.now in
    let own = same_option cell.shift c.in-Shift.to in
    rw c.in-Shift.is
    (has_at c.args.self.now.cells c.args.state c.args.terminal cell c.in-Some.ensures.some
    (Shift c.in-Shift.to) c.eq.result ((λ on. own.0 (sym c.eq.ensures ∙ on)), (λ is. c.eq.ensures ∙ own.1 is)))

pub returns-in-Reduce : goal.returns-in-Reduce
returns-in-Reduce c =
    let cell = c.in-Some.cell.now in
    let own = has_is cell.reduces.items c.in-Reduce.rule in
    let value = c.contains.ensures.value
    ∙ ap (λ (xs : List ℕ). has xs c.in-Reduce.rule) c.deref.ensures.value in
    rw c.in-Reduce.is
    (has_at c.args.self.now.cells c.args.state c.args.terminal cell c.in-Some.ensures.some
    (Reduce c.in-Reduce.rule) c.contains.result ((λ on. own.0 (sym value ∙ on)), (λ is. value ∙ own.1 is)))
