-- The nodes so far have their edges.
use Rattle.std.proofs.Common.{◌↔◌, ℕ, ◌<◌, length}
use Rattle.std.specs.List.{Contains}
use Rattle.files_graph.specs.Direct.{IsClear, IsDirect}
use Rattle.files_graph.proofs.direct.direct_edges.Given as goal

abbrev pub invariant-loop-node : goal.invariant-loop-node
invariant-loop-node l = record {
  clear : IsClear (length l.links) l.search;
  direct : (n m : ℕ) → Contains l.edges.items (n, m) ↔ ((n < l.node) × IsDirect l.links n m);
}
