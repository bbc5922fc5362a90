-- The walk gives the next node of the set, and its line is written.
use Rattle.std.proofs.Common.{◌∙◌, ap}
use Rattle.files_text.specs.Printed.{members}
use Rattle.files_graph.specs.GraphForms.{edge_item}
use Rattle.files_text.proofs.PrintedLemmas.{flat_map-map, items_all, items_more, items_none}
use Rattle.files_graph.proofs.closure.put_edges.Goals as goal

pub loop-node-init : goal.loop-node-init
loop-node-init g c = record {
  can_next = tt;
  is_finite = tt;
  wrote = items_all _ _ _ _ (ap (λ walk. walk.rest)
      c.into_iter-node-iterator.ensures.into_iter_gives
      ∙ (c.iter_set_bits-node-items.ensures.fresh tt).whole.rest);
}

pub loop-node-preserved : goal.loop-node-preserved
loop-node-preserved g c = record {
  can_next = tt;
  is_finite = tt;
  wrote = items_more _ _ _ _ _ _ _ _ c.in-Some.ensures.steps.gives c.loop-node.invariant.wrote
      c.in_ok-put_edge.ensures;
}

pub returns : goal.returns
returns g c =
    rw (flat_map-map (edge_item c.args.names.now.form c.args.names.now.names c.args.first) (λ to. (c.args.from, to)) (members c.args.set.now))
    (items_none _ _ _ _ _ c.in-None.ensures.steps.gives.0 c.loop-node.invariant.wrote)
