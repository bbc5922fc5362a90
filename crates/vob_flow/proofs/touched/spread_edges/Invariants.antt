-- The edges of the nodes so far.
use Rattle.std.proofs.Common.{Contains}
use Rattle.vob_flow.specs.Lists.{lists_of}
use Rattle.vob_flow.specs.Touched.{AreSpread}
use Rattle.vob_flow.proofs.touched.spread_edges.Given as goal

abbrev pub invariant-loop-node : goal.invariant-loop-node
invariant-loop-node l =
    AreSpread l.fn.paths l.graph (lists_of l.generates) l.users l.places l.node (λ n m. Contains l.edges.items (n, m))
