-- The edges so far are those of the nodes so far.
use Rattle.vob_flow.specs.LiveDraws.{AreEdges}
use Rattle.vob_flow.proofs.live.edges_of.Given as goal

abbrev pub invariant-loop-node : goal.invariant-loop-node
invariant-loop-node l = AreEdges l.nodes l.node l.edges.items
