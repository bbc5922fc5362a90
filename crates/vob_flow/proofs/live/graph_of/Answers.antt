-- The edges are those of all nodes.
use Rattle.vob_flow.proofs.LiveLemmas.{IsFlowGraph-edges}
use Rattle.vob_flow.proofs.live.graph_of.Goals as goal

pub returns-in-Ok : goal.returns-in-Ok
returns-in-Ok c = IsFlowGraph-edges _ _ _ c.in_ok-edges.ensures
    (rw c.deref.ensures.value at c.in-Ok.ensures.edges) (rw c.deref.ensures.value at c.in-Ok.ensures.each)
