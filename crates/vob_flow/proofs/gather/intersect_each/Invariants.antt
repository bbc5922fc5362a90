-- The sets so far are what is in each of theirs.
use Rattle.std.proofs.Common.{◌≡◌, [], get_or}
use Rattle.vob_flow.specs.Changes.{EachBecomes}
use Rattle.vob_flow.specs.Greatest.{IsInAll}
use Rattle.vob_flow.proofs.gather.intersect_each.Given as goal

abbrev pub invariant-loop-common : goal.invariant-loop-common
invariant-loop-common l =
    EachBecomes l.fn.commons.rows (λ n. IsInAll l.sets.rows (get_or l.graph n [])) l.commons.rows
    l.common × (l.commons.columns ≡ l.fn.commons.columns)
