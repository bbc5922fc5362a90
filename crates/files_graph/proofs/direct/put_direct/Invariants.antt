-- The edges so far are direct, and what they lead to was found.
use Rattle.files_graph.proofs.DirectLemmas.{ArePicked}
use Rattle.files_graph.proofs.direct.put_direct.Given as goal

abbrev pub invariant-ends : goal.invariant-ends
invariant-ends l = ArePicked l.links l.node l.lowest l.at l.fn.edges.items l.edges.items l.search

abbrev pub decreases-ends : goal.decreases-ends
decreases-ends l = l.search.left
