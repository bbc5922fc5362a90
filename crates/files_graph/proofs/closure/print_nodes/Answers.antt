-- What is written are the nodes that were found.
use Rattle.files_graph.proofs.ClosureTextLemmas.{lists_nodes}
use Rattle.files_graph.proofs.closure.print_nodes.Goals as goal

pub returns-clause-ok : goal.returns-clause-ok
returns-clause-ok g c =
    let found = c.in_ok-nodes.ensures.ok in (
      found.0,
      found.1,
      (
        _,
        rw (← c.in_ok-names.ensures.0, ← c.in_ok-names.ensures.1) c.in_ok-put_node_set.ensures,
        lists_nodes c.in_ok-nodes.nodes.bits c.args.form c.args.graph.now.names _ found.2,
      ),
    )
