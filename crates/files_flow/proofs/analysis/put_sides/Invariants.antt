-- The lines of the nodes from the one at hand on are still to be written.
use Rattle.std.proofs.Common.{◌-◌, length}
use Rattle.std.specs.List.{range_with_len}
use Rattle.files_flow.specs.FlowText.{sides_line}
use Rattle.files_flow.specs.Problems.{lists_of}
use Rattle.files_text.proofs.PrintedLemmas.{AppendsItems}
use Rattle.files_flow.proofs.analysis.put_sides.Given as goal

abbrev pub invariant-loop-node : goal.invariant-loop-node
invariant-loop-node g l =
    AppendsItems (sides_line l.json l.names (lists_of l.labels) l.before.rows l.after.rows)
    (g.W.Write.contents l.fn.output) (g.W.Write.contents l.output) (range_with_len 0 (length l.names))
    (range_with_len l.node (length l.names - l.node))
