-- The sets so far have what is in their lists.
use Rattle.std.proofs.Common.{◌≡◌, ◌+◌, ◌<◌, Contains}
use Rattle.vob_flow.specs.Changes.{EachGets}
use Rattle.vob_flow.specs.Lists.{lists_of}
use Rattle.vob_flow.specs.Parts.{chosen}
use Rattle.vob_flow.proofs.BlankLemmas.{blank}
use Rattle.vob_flow.proofs.lists.chosen_sets.Given as goal

abbrev pub invariant-loop-set : goal.invariant-loop-set
invariant-loop-set l = EachGets (blank l.rows l.count) (λ i j. (j < l.count) × Contains (chosen (lists_of l.lists) l.nodes i) (l.start + j)) l.sets.rows l.set
    × (l.sets.columns ≡ l.count)
