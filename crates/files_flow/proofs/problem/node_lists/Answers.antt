-- The lists of one node more.
use Rattle.std.proofs.Common.{◌∙◌}
use Rattle.files_flow.proofs.ProblemLemmas.{copied}
use Rattle.files_flow.proofs.problem.node_lists.Goals as goal

pub loop-node-preserved : goal.loop-node-preserved
loop-node-preserved c =
    let nodes = c.args.nodes.now in
    let k = c.loop-node.node in
    let before = c.loop-node.invariant in record {
      reads = rw c.in_ok-push.ensures.items (copied (λ node. node.reads.items) nodes k c.index-nodes-node.result _ _
          c.loop-node-test.true
          (c.in_ok-to_vec.ensures.items_if_clones_equal (λ x y e. e) ∙ c.deref.ensures.value) before.reads);
      writes = rw c.in_ok-push-2.ensures.items (copied (λ node. node.writes.items) nodes k
          c.index-nodes-node-in-loop-node.result _ _ c.loop-node-test.true
          (c.in_ok-to_vec-2.ensures.items_if_clones_equal (λ x y e. e) ∙ c.deref-in-loop-node.ensures.value) before.writes);
      next = rw c.in_ok-push-3.ensures.items (copied (λ node. node.next.items) nodes k
          c.index-nodes-node-in-loop-node-2.result _ _ c.loop-node-test.true
          (c.in_ok-to_vec-3.ensures.items_if_clones_equal (λ x y e. e) ∙ c.deref-in-loop-node-2.ensures.value) before.next);
    }
