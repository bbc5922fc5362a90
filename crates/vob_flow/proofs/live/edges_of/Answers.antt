-- One node's edges more.
use Rattle.std.proofs.Common.{◌≡◌, length, subst, arith}
use Rattle.std.proofs.lemmas.Option.{slice_get-get_or}
use Rattle.vob_flow.specs.LiveDraws.{AreEdges}
use Rattle.vob_flow.proofs.LiveLemmas.{edges_more, edges_none}
use Rattle.vob_flow.proofs.live.edges_of.Goals as goal

pub loop-node-init : goal.loop-node-init
loop-node-init c = rw c.in_ok-edges.ensures.items (edges_none _)

pub loop-node-preserved : goal.loop-node-preserved
loop-node-preserved c = edges_more _ _ _ _ _ c.loop-node.invariant
    (slice_get-get_or c.args.nodes.now c.loop-node.node c.index-nodes-node.result c.loop-node-test.true)
    (rw c.deref.ensures.value at c.in_ok-push_edges.ensures)

pub returns : goal.returns
returns c =
    let nodes = c.args.nodes.now in
    let whole : c.loop-node.node ≡ length nodes = omega arith in
    subst (λ k. AreEdges nodes k c.loop-node.edges.items) whole c.loop-node.invariant
