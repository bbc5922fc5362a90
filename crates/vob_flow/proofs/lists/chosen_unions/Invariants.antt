-- The sums so far have what is in their lists.
use Rattle.std.proofs.Common.{◌≡◌, Any}
use Rattle.vob_flow.specs.Changes.{EachGets}
use Rattle.vob_flow.specs.Draws.{IsIn}
use Rattle.vob_flow.specs.Lists.{lists_of}
use Rattle.vob_flow.specs.Parts.{chosen}
use Rattle.vob_flow.specs.Touched.{place_in}
use Rattle.vob_flow.proofs.BlankLemmas.{blank}
use Rattle.vob_flow.proofs.lists.chosen_unions.Given as goal

abbrev pub invariant-loop-sum : goal.invariant-loop-sum
invariant-loop-sum l = EachGets (blank l.rows l.sets.columns) (λ i j. Any (λ x. IsIn l.sets.rows (place_in l.own x) j) (chosen (lists_of l.lists) l.nodes i)) l.sums.rows l.sum
    × (l.sums.columns ≡ l.sets.columns)
