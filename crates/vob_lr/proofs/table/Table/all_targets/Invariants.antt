-- Those of the states so far.
use Rattle.vob_flow.specs.Lists.{lists_of}
use Rattle.vob_lr.specs.Entered.{AreTargetsBelow}
use Rattle.vob_lr.proofs.table.Table.all_targets.Given as goal

abbrev pub invariant-loop-state : goal.invariant-loop-state
invariant-loop-state l = AreTargetsBelow l.self l.state (lists_of l.lists.items)
