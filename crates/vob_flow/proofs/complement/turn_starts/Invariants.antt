-- The sets so far are what they lack.
use Rattle.std.proofs.Common.{◌≡◌}
use Rattle.vob_flow.specs.Changes.{EachBecomes, IsLacking}
use Rattle.vob_flow.specs.Greatest.{mask_from}
use Rattle.vob_flow.proofs.complement.turn_starts.Given as goal

abbrev pub invariant-loop-set : goal.invariant-loop-set
invariant-loop-set l =
    EachBecomes l.fn.sets.rows (IsLacking (mask_from l.entry l.masks) l.fn.sets.rows) l.sets.rows l.set
    × (l.sets.columns ≡ l.fn.sets.columns)
