-- What the next nodes of a node reach is what the node leads to.
use Rattle.std.proofs.Common.{sym}
use Rattle.files_graph.proofs.PathLemmas.{reached_from}
use Rattle.files_graph.proofs.closure.nodes_from.Goals as goal

pub returns-clause-ok : goal.returns-clause-ok
returns-clause-ok c = (
  c.in-Some.node,
  rw (← c.as_bytes.ensures.value) c.in-Some.ensures.some,
  reached_from c.args.graph.now.next c.in-Some.node _ _ (sym c.next.ensures.ends) c.in_ok-reach.ensures,
)
