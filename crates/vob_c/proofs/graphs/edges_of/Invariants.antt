-- The edges of the nodes so far.
use Rattle.vob_rows.specs.Ends.{lists_of}
use Rattle.vob_c.specs.Graphs.{AreEdgesOf}
use Rattle.vob_c.proofs.graphs.edges_of.Given as goal

abbrev pub invariant-loop-node : goal.invariant-loop-node
invariant-loop-node l = AreEdgesOf (lists_of l.offsets l.ends) l.node l.edges.items
