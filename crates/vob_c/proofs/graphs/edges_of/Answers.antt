-- The edges of one node more.
use Rattle.std.proofs.Common.{◌+◌, ◌∙◌, refl, arith}
use Rattle.vob_c.proofs.GraphLemmas.{edges_more, list_here, offset_inside}
use Rattle.vob_c.proofs.graphs.edges_of.Goals as goal

pub part-requires-clause-inside : goal.part-requires-clause-inside
part-requires-clause-inside c = offset_inside c.args.nodes c.args.offsets.now c.args.ends.now c.requires
    (c.loop-node.node + 1) (omega (arith, c.loop-node-test.true))

pub loop-node-preserved : goal.loop-node-preserved
loop-node-preserved c = edges_more _ _ _ _ _ c.loop-node.invariant (c.part.ensures
    ∙ list_here c.args.nodes c.args.offsets.now c.args.ends.now c.requires c.loop-node.node
    c.loop-node-test.true _ _ refl refl) c.in_ok-push_edges.ensures
