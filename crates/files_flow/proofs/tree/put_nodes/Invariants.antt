-- The nodes from the one at hand on are still to be written.
use Rattle.std.proofs.Common.{◌-◌, length}
use Rattle.std.specs.List.{range_with_len}
use Rattle.files_flow.specs.Trees.{node_line}
use Rattle.files_text.proofs.PrintedLemmas.{AppendsItems}
use Rattle.files_flow.proofs.tree.put_nodes.Given as goal

abbrev pub invariant-loop-node : goal.invariant-loop-node
invariant-loop-node g l =
    AppendsItems (node_line l.names) (g.W.Write.contents l.fn.output) (g.W.Write.contents l.output)
    (range_with_len 0 (length l.names)) (range_with_len l.node (length l.names - l.node))
