-- A cell of what is left out has an action.
use Rattle.std.proofs.Common.{◌∙◌, ap, sym}
use Rattle.std.specs.Option.{is_some}
use Rattle.vob_lr.proofs.LeftOutLemmas.{decided_is}
use Rattle.vob_lr.proofs.table.Table.is_at.Goals as goal

pub returns-in_ok-cell-in-Decided : goal.returns-in_ok-cell-in-Decided
returns-in_ok-cell-in-Decided c =
    let is = decided_is c.args.self.now c.args.place.state c.args.place.terminal
    c.in_ok-cell-in-Decided.cell c.in_ok-cell-in-Decided.ensures in
    let value = c.is_some.ensures ∙ ap is_some c.action.ensures in
    rw c.in-Decided.is ((λ on. is.0 (sym value ∙ on)), (λ out. value ∙ is.1 out))
