-- The entries at the terminals so far.
use Rattle.std.proofs.Common.{◌<◌}
use Rattle.vob_arrays.specs.Arrays.{IsActionAt}
use Rattle.vob_arrays.specs.Building.{Appends}
use Rattle.vob_arrays.proofs.build.push_actions.Given as goal

abbrev pub invariant-loop-terminal : goal.invariant-loop-terminal
invariant-loop-terminal l =
    Appends (λ x a. (x < l.terminal) × IsActionAt l.table l.state x a) l.fn.entries.items l.entries.items
