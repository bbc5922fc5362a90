-- The lines of the edges that are left are still to be written.
use Rattle.std.specs.Prelude.{drop}
use Rattle.files_graph.specs.GraphForms.{edge_item}
use Rattle.files_text.proofs.PrintedLemmas.{AppendsItems}
use Rattle.files_graph.proofs.closure.put_listed.Given as goal

abbrev pub invariant-loop-from : goal.invariant-loop-from
invariant-loop-from g l =
    AppendsItems (edge_item l.names.form l.names.names l.first) (g.W.Write.contents l.fn.output) (g.W.Write.contents l.output)
    l.edges (drop l.from-index l.edges)
