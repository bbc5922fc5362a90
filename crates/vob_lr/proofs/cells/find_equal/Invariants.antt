-- None of the cells so far holds the same.
use Rattle.std.proofs.Common.{ℕ, ◌<◌, get_or}
use Rattle.vob_lr.specs.Kept.{Equals}
use Rattle.vob_lr.specs.declared.table.Cell.{Cell}
use Rattle.vob_lr.proofs.cells.find_equal.Given as goal

abbrev pub invariant-loop-place : goal.invariant-loop-place
invariant-loop-place l = (k : ℕ) (d : Cell) → k < l.place → ¬ Equals l.cell (get_or l.kept k d)
