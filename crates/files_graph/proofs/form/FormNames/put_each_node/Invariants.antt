-- The nodes from the one at hand on are still to be written.
use Rattle.std.proofs.Common.{◌-◌, Some, length}
use Rattle.std.specs.List.{range_with_len}
use Rattle.files_graph.specs.GraphForms.{node_item}
use Rattle.files_text.proofs.PrintedLemmas.{AppendsItems}
use Rattle.files_graph.proofs.form.FormNames.put_each_node.Given as goal

abbrev pub invariant-loop-node : goal.invariant-loop-node
invariant-loop-node g l =
    AppendsItems (node_item l.self.form l.self.names (Some 0)) (g.W.Write.contents l.fn.output)
    (g.W.Write.contents l.output) (range_with_len 0 (length l.self.names))
    (range_with_len l.node (length l.self.names - l.node))
