-- The edges of the nodes so far.
use Rattle.vob_flow.proofs.SpreadLemmas.{AreChosenEdges}
use Rattle.vob_flow.proofs.chosen.chosen_edges.Given as goal

abbrev pub invariant-loop-at : goal.invariant-loop-at
invariant-loop-at l = AreChosenEdges l.entry l.graph l.nodes l.at l.edges.items
