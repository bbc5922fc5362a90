-- The set got what is in the sets so far.
use Rattle.std.proofs.Common.{◌≡◌, take, Any}
use Rattle.vob_flow.specs.Changes.{Gets}
use Rattle.vob_flow.specs.Draws.{IsIn}
use Rattle.vob_flow.specs.Touched.{place_in}
use Rattle.vob_flow.proofs.lists.gather_own.Given as goal

abbrev pub invariant-loop-number : goal.invariant-loop-number
invariant-loop-number l =
    Gets l.fn.sums.rows l.sum (λ j. Any (λ x. IsIn l.sets.rows (place_in l.own x) j) (take l.number-index l.numbers)) l.sums.rows
    × (l.sums.columns ≡ l.fn.sums.columns)
