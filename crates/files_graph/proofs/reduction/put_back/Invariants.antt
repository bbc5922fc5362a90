-- The nodes so far have their edges.
use Rattle.std.proofs.Common.{◌↔◌, ◌⊎◌, ℕ}
use Rattle.std.specs.List.{Contains}
use Rattle.files_graph.specs.Parts.{IsLastOf}
use Rattle.files_graph.proofs.reduction.put_back.Given as goal

abbrev pub invariant-loop-node : goal.invariant-loop-node
invariant-loop-node l = (a b : ℕ) → Contains l.edges.items (a, b)
    ↔ (Contains l.fn.edges.items (a, b) ⊎ IsLastOf l.graph l.numbers l.firsts l.lasts l.node a b)
