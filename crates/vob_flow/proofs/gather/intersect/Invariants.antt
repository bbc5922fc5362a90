-- The set is what is in each of the sets so far.
use Rattle.std.proofs.Common.{◌≡◌, take}
use Rattle.vob_flow.specs.Changes.{Becomes}
use Rattle.vob_flow.specs.Greatest.{IsInAll}
use Rattle.vob_flow.proofs.gather.intersect.Given as goal

abbrev pub invariant-loop-set : goal.invariant-loop-set
invariant-loop-set l =
    Becomes l.fn.commons.rows l.common (IsInAll l.sets.rows (take l.set-index l.from)) l.commons.rows
    × (l.commons.columns ≡ l.fn.commons.columns)
