-- The edges so far gave theirs.
use Rattle.std.proofs.Common.{◌↔◌, ◌⊎◌, ℕ, take}
use Rattle.std.specs.List.{Contains}
use Rattle.files_graph.specs.Parts.{JoinsFirsts}
use Rattle.files_graph.proofs.reduction.put_between.Given as goal

abbrev pub invariant-loop-at : goal.invariant-loop-at
invariant-loop-at l = (a b : ℕ) → Contains l.edges.items (a, b)
    ↔ (Contains l.fn.edges.items (a, b) ⊎ JoinsFirsts (take l.at l.links) l.firsts a b)
