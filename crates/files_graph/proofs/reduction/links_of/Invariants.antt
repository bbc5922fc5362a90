-- The nodes so far gave their edges.
use Rattle.std.proofs.Common.{◌↔◌, ℕ, ◌<◌}
use Rattle.std.specs.List.{Contains}
use Rattle.files_graph.specs.Parts.{IsLinkOf}
use Rattle.files_graph.proofs.reduction.links_of.Given as goal

abbrev pub invariant-loop-node : goal.invariant-loop-node
invariant-loop-node l = (p q : ℕ) → Contains l.links.items (p, q)
    ↔ ((n : ℕ) × (n < l.node) × IsLinkOf l.graph l.numbers n p q)
