-- The places before the state.
use Rattle.vob_lr.specs.Conflicts.{ArePlacesBefore}
use Rattle.vob_lr.proofs.table.Table.places.Given as goal

abbrev pub invariant-loop-state : goal.invariant-loop-state
invariant-loop-state l =
    ArePlacesBefore l.self l.question (record { state = l.state; terminal = 0 }) l.found.items
