-- The entries of the states so far.
use Rattle.vob_arrays.specs.Arrays.{IsEntry}
use Rattle.vob_arrays.specs.Building.{AreBuilt}
use Rattle.vob_arrays.proofs.build.rows_of.Given as goal

abbrev pub invariant-loop-state : goal.invariant-loop-state
invariant-loop-state l = AreBuilt (IsEntry l.table) l.state l.offsets.items l.entries.items
