-- The moves of the first states.
use Rattle.std.proofs.Common.{◌-◌, ◌^◌, length}
use Rattle.vob_flow.specs.Lists.{lists_of}
use Rattle.vob_lr.specs.Rounds.{AreRounds, rows_of}
use Rattle.vob_lr.proofs.state.states_of.Given as goal

abbrev pub invariant-rounds : goal.invariant-rounds
invariant-rounds l =
    AreRounds l.closures.rules.items (lists_of l.sets.keys) (rows_of l.moves.items)

abbrev pub decreases-rounds : goal.decreases-rounds
decreases-rounds l = 2 ^ 64 - length l.moves.items
