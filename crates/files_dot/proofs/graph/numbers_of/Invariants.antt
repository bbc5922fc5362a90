-- The numbers of the edges so far.
use Rattle.std.proofs.Common.{take}
use Rattle.files_dot.specs.Graphs.{AreNumbers}
use Rattle.files_dot.specs.Held.{edges_of}
use Rattle.files_dot.proofs.graph.numbers_of.Given as goal

abbrev pub invariant-edges : goal.invariant-edges
invariant-edges l = AreNumbers l.names (edges_of (take l.edge-index l.edges)) l.numbers.items
