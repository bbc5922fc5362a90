-- What is written are the edges of the reduction.
use Rattle.std.proofs.Common.{ap}
use Rattle.files_graph.specs.GraphForms.{edges_text}
use Rattle.files_graph.proofs.closure.print_fewest.Goals as goal

pub returns-clause-ok : goal.returns-clause-ok
returns-clause-ok g c = (
  _,
  rw (← c.in_ok-names.ensures.0, ← c.in_ok-names.ensures.1) c.in_ok-put_edge_list.ensures,
  record {
    edges = c.in_ok-edges.edges.items;
    is = ap (edges_text c.args.form c.args.graph.now.names) c.deref.ensures.value;
    each = c.in_ok-edges.ensures.each;
    order = c.in_ok-edges.ensures.order;
  },
)
