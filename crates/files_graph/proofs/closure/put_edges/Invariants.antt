-- The lines of the nodes that are left are still to be written.
use Rattle.files_text.specs.Printed.{members}
use Rattle.files_graph.specs.GraphForms.{edge_item}
use Rattle.files_text.proofs.PrintedLemmas.{AppendsItems}
use Rattle.files_graph.proofs.closure.put_edges.Given as goal

abbrev pub invariant-loop-node : goal.invariant-loop-node
invariant-loop-node g l = record {
  can_next : (goal.iterator-loop-node g).can_next l.node-iterator;
  is_finite : (goal.iterator-loop-node g).is_finite l.node-iterator;
  wrote : AppendsItems (λ to. edge_item l.names.form l.names.names l.first (l.from, to)) (g.W.Write.contents l.fn.output)
      (g.W.Write.contents l.output) (members l.set) l.node-iterator.rest;
}
