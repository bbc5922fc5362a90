-- The lists so far have their numbers.
use Rattle.std.proofs.Common.{◌≡◌, ◌∷◌, [], ℕ, map}
use Rattle.std.specs.List.{range_with_len}
use Rattle.files_flow.specs.Problems.{lists_of}
use Rattle.files_flow.proofs.problem.single_lists.Given as goal

abbrev pub invariant-loop-number : goal.invariant-loop-number
invariant-loop-number l = lists_of l.lists.items ≡ map (λ (x : ℕ). x ∷ []) (range_with_len 0 l.number)
