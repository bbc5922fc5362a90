-- The set got what is in the sets so far.
use Rattle.std.proofs.Common.{◌≡◌, take}
use Rattle.vob_flow.specs.Changes.{Gets}
use Rattle.vob_flow.specs.Draws.{IsInSome}
use Rattle.vob_flow.proofs.gather.gather.Given as goal

abbrev pub invariant-loop-set : goal.invariant-loop-set
invariant-loop-set l =
    Gets l.fn.sums.rows l.sum (IsInSome l.sets.rows (take l.set-index l.from)) l.sums.rows
    × (l.sums.columns ≡ l.fn.sums.columns)
