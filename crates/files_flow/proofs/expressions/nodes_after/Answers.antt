-- The list of one node more.
use Rattle.std.proofs.Common.{◌∙◌, ap}
use Rattle.vob_flow.specs.declared.live.Flow.{Flow}
use Rattle.files_flow.specs.Available.{after_of}
use Rattle.files_flow.proofs.ProblemLemmas.{copied}
use Rattle.files_flow.proofs.expressions.nodes_after.Goals as goal

pub loop-node-preserved : goal.loop-node-preserved
loop-node-preserved c =
    rw c.in_ok-push.ensures.items
    (copied (λ (node : Flow). after_of c.args.border node.next.items) c.args.nodes.now c.loop-node.node
    c.index-nodes-node.result _ _ c.loop-node-test.true
    (c.in_ok-after_of.ensures ∙ ap (after_of c.args.border) c.deref.ensures.value) c.loop-node.invariant)
