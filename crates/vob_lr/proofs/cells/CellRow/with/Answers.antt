-- The cell is kept if it has an action.
use Rattle.std.proofs.Common.{◌≡◌, ◌+◌, ◌∙◌, ap, arith, not, sym}
use Rattle.std.specs.Option.{is_some}
use Rattle.vob_lr.proofs.KeptLemmas.{IsPushed-with, IsPushed-without}
use Rattle.vob_lr.proofs.cells.CellRow.with.Goals as goal

pub returns-then-is_none : goal.returns-then-is_none
returns-then-is_none c =
    let r = c.self.inside in
    let none = ap is_some (sym c.action.ensures) ∙ c.is_none.ensures ∙ ap not c.if-is_none.true in
    let next : c.in-Some.next ≡ r.count + 1 = omega (arith, c.in-Some.ensures) in
    rw (← c.self.view_is, next)
    (IsPushed-without r.count r.terminals.items r.places.items r.kept.items r.nothing c.self.invariant c.args.cell none)

pub returns : goal.returns
returns c =
    let r = c.self.inside in
    let next : c.in-Some.next ≡ r.count + 1 = omega (arith, c.in-Some.ensures) in
    rw (← c.self.view_is, next, c.in_ok-push.ensures.items, c.in_ok-push-2.ensures.items)
    (IsPushed-with r.count r.terminals.items r.places.items r.kept.items r.nothing c.self.invariant c.args.cell
    c.keep.new.kept.items c.in_ok-keep.field-0 c.in_ok-keep.ensures)
