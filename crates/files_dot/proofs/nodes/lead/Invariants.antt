-- The edges from the nodes so far.
use Rattle.std.proofs.Common.{◌≡◌, ◌++◌, take}
use Rattle.files_dot.specs.Graphs.{between}
use Rattle.files_dot.specs.Held.{edges_of, names_of}
use Rattle.files_dot.proofs.nodes.lead.Given as goal

abbrev pub invariant-tails : goal.invariant-tails
invariant-tails l = edges_of l.edges.items
    ≡ edges_of l.initial.edges.items ++ between (names_of (take l.tail-index l.tails)) (names_of l.heads)
