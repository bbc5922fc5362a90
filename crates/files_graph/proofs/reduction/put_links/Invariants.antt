-- The ends so far gave their edges.
use Rattle.std.proofs.Common.{◌↔◌, ◌⊎◌, ℕ, take}
use Rattle.std.specs.List.{Contains}
use Rattle.files_graph.specs.Parts.{IsLinkTo}
use Rattle.files_graph.proofs.reduction.put_links.Given as goal

abbrev pub invariant-loop-end : goal.invariant-loop-end
invariant-loop-end l = (p q : ℕ) → Contains l.links.items (p, q)
    ↔ (Contains l.fn.links.items (p, q) ⊎ IsLinkTo l.numbers (take l.end-index l.ends) l.node p q)
