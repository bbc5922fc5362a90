-- Each list is what its call returned.
use Rattle.std.proofs.Common.{◌≡◌, length, refl, rules}
use Rattle.files_flow.specs.Definitions.{definitions_of}
use Rattle.files_flow.proofs.definitions.reaching_problem.Goals as goal

pub returns : goal.returns
returns c =
    let made : c.in_ok-definitions.definitions.items ≡ definitions_of c.args.graph.now.nodes.items =
    rw c.deref.ensures.value at c.in_ok-definitions.ensures in
    let many : c.len.result ≡ length c.args.graph.now.nodes.items = search rules in
    record {
      paths = refl;
      forward = refl;
      labels = rw (c.deref-2.ensures.value, made) at c.in_ok-labels.ensures;
      generates = rw (many, c.deref-3.ensures.value, made) at c.in_ok-by_node.ensures;
      by_variable = rw (c.len-2.ensures, c.deref-4.ensures.value, made) at c.in_ok-by_variable.ensures;
      writes = rw c.deref-5.ensures.value at c.in_ok-node_lists.ensures.writes;
      from = rw c.deref-6.ensures.value at c.in_ok-nodes_before.ensures;
    }
