-- The edges to the nodes so far are written.
use Rattle.std.proofs.Common.{ℕ, List}
use Rattle.vob_flow.specs.Dominators.{IsDominatorTree}
use Rattle.files_text.specs.Printed.{Writes}
use Rattle.files_flow.specs.FlowText.{AreLines}
use Rattle.files_flow.specs.Trees.{IsEdgeOf}
use Rattle.files_flow.proofs.tree.put_edges.Given as goal

abbrev pub invariant-loop-node : goal.invariant-loop-node
invariant-loop-node g l = (before : List (List ℕ)) → IsDominatorTree before 0 l.tree →
    Writes (g.W.Write.contents l.fn.output) (g.W.Write.contents l.output)
    (AreLines (IsEdgeOf before l.names) l.node)
