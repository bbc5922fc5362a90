-- The set got the numbers so far.
use Rattle.std.proofs.Common.{◌≡◌}
use Rattle.vob_flow.specs.Changes.{Gets}
use Rattle.vob_flow.proofs.PartsLemmas.{InPart}
use Rattle.vob_flow.proofs.lists.add_part.Given as goal

abbrev pub invariant-loop-number : goal.invariant-loop-number
invariant-loop-number l =
    Gets l.fn.sets.rows l.set (InPart l.list l.start l.fn.sets.columns l.number-index) l.sets.rows
    × (l.sets.columns ≡ l.fn.sets.columns)
