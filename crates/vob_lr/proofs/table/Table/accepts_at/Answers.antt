-- The end would be shifted, and the state that it leads to is the last.
use Rattle.std.proofs.Common.{◌≡◌, Some, arith}
use Rattle.vob_lr.specs.Tables.{chosen_at}
use Rattle.vob_lr.specs.declared.table.Action.TheVariants.{Shift}
use Rattle.vob_lr.proofs.StepLemmas.{accepts_is}
use Rattle.vob_lr.proofs.table.Table.accepts_at.Goals as goal

pub returns-in-Some-Shift : goal.returns-in-Some-Shift
returns-in-Some-Shift c =
    let zero : c.args.terminal ≡ 0 = omega (arith, c.if-terminal-ne0.false) in
    let is : chosen_at c.args.self.now.cells c.args.state c.args.terminal ≡ Some (Shift c.in-Some-Shift.to) = cc in
    accepts_is c.args.self.now c.args.state c.args.terminal c.in-Some-Shift.to c.is_end.result zero is c.is_end.ensures
