-- The sets so far are gathered.
use Rattle.std.proofs.Common.{◌≡◌, [], get_or}
use Rattle.vob_flow.specs.Changes.{EachGets}
use Rattle.vob_flow.specs.Draws.{IsInSome}
use Rattle.vob_flow.proofs.gather.gather_each.Given as goal

abbrev pub invariant-loop-sum : goal.invariant-loop-sum
invariant-loop-sum l =
    EachGets l.fn.sums.rows (λ n v. IsInSome l.sets.rows (get_or l.graph n []) v) l.sums.rows l.sum
    × (l.sums.columns ≡ l.fn.sums.columns)
