-- Those by the moves so far.
use Rattle.std.proofs.Common.{take}
use Rattle.vob_lr.specs.Entered.{AreTargetsOf}
use Rattle.vob_lr.proofs.table.Table.targets.Given as goal

abbrev pub invariant-loop-place : goal.invariant-loop-place
invariant-loop-place l = AreTargetsOf l.self l.state (take l.place l.moves.items) l.list.items
