-- The places before the terminal.
use Rattle.vob_lr.specs.Conflicts.{ArePlacesBefore}
use Rattle.vob_lr.proofs.table.Table.add_places.Given as goal

abbrev pub invariant-loop-terminal : goal.invariant-loop-terminal
invariant-loop-terminal l =
    ArePlacesBefore l.self l.question (record { state = l.state; terminal = l.terminal }) l.found.items
