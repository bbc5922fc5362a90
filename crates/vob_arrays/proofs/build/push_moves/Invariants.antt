-- The entries of the moves so far.
use Rattle.std.proofs.Common.{take}
use Rattle.vob_arrays.specs.Arrays.{IsMoveEntry}
use Rattle.vob_arrays.specs.Building.{Appends}
use Rattle.vob_arrays.proofs.build.push_moves.Given as goal

abbrev pub invariant-loop-own : goal.invariant-loop-own
invariant-loop-own l =
    Appends (IsMoveEntry l.terminals (take l.own-index l.moves)) l.fn.entries.items l.entries.items
