-- The nodes so far have their immediate dominator.
use Rattle.std.proofs.Common.{ℕ, ◌<◌, ◌≤◌, List, get_or}
use Rattle.vob_flow.specs.Dominators.{IsDominatorTree, IsImmediate}
use Rattle.vob_c.specs.Found.{found_below}
use Rattle.vob_c.proofs.dominators.write_immediate.Given as goal

abbrev pub invariant-loop-node : goal.invariant-loop-node
invariant-loop-node l = (before : List (List ℕ)) (entry : ℕ) → IsDominatorTree before entry l.tree
    → (n : ℕ) → n < l.node → (get_or l.immediate n 0 ≤ l.nodes)
    × IsImmediate before entry n (found_below l.nodes (get_or l.immediate n 0))
