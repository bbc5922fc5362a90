-- The numbers in the lists so far are below the count.
use Rattle.std.specs.List.{All}
use Rattle.std.proofs.Common.{ℕ, ◌<◌, [], get_or}
use Rattle.vob_flow.specs.Lists.{lists_of}
use Rattle.vob_flow.proofs.lists.are_below.Given as goal

abbrev pub invariant-loop-list : goal.invariant-loop-list
invariant-loop-list l =
    (k : ℕ) → k < l.list-index → All (λ x. x < l.count) (get_or (lists_of l.lists) k [])
