-- The sets so far are negated.
use Rattle.std.proofs.Common.{◌≡◌}
use Rattle.vob_flow.specs.Changes.{EachBecomes, IsOut}
use Rattle.vob_flow.proofs.complement.negate_each.Given as goal

abbrev pub invariant-loop-set : goal.invariant-loop-set
invariant-loop-set l = EachBecomes l.fn.sets.rows (IsOut l.fn.sets.rows) l.sets.rows l.set
    × (l.sets.columns ≡ l.fn.sets.columns)
