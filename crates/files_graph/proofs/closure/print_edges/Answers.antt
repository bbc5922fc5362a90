-- What is written are the edges of the closure.
use Rattle.std.proofs.Common.{length, refl}
use Rattle.files_graph.proofs.ClosureTextLemmas.{lists_edges}
use Rattle.files_graph.proofs.closure.print_edges.Goals as goal

pub returns-clause-ok : goal.returns-clause-ok
returns-clause-ok g c =
    let sets = c.in_ok-sets.sets.rows in (
      _,
      rw (← c.in_ok-names.ensures.0, ← c.in_ok-names.ensures.1) c.in_ok-put_edge_sets.ensures,
      lists_edges sets c.args.form c.args.graph.now.names _ (length sets) refl c.in_ok-sets.ensures.closure.each,
    )
