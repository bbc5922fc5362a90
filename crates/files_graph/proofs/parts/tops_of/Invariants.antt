-- The tops of the nodes so far.
use Rattle.files_graph.specs.Parts.{AreTops}
use Rattle.files_graph.proofs.parts.tops_of.Given as goal

abbrev pub invariant-loop-node : goal.invariant-loop-node
invariant-loop-node l = AreTops l.roots l.places l.node l.tops.items
