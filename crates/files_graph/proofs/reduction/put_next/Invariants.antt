-- The nodes so far have their edges.
use Rattle.std.proofs.Common.{◌↔◌, ◌⊎◌, ℕ}
use Rattle.std.specs.List.{Contains}
use Rattle.files_graph.specs.Parts.{AreLasts, IsNextOf}
use Rattle.files_graph.proofs.reduction.put_next.Given as goal

abbrev pub invariant-loop-node : goal.invariant-loop-node
invariant-loop-node l = record {
  lasts : AreLasts l.numbers l.node l.lasts.items;
  edges : (a b : ℕ) → Contains l.edges.items (a, b)
      ↔ (Contains l.fn.edges.items (a, b) ⊎ IsNextOf l.numbers l.node a b);
}
