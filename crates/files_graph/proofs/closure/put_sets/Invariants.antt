-- The lines of the nodes from the one at hand on are still to be written.
use Rattle.std.proofs.Common.{◌-◌, [], length, slice_index_or}
use Rattle.std.specs.List.{flat_map, range_with_len}
use Rattle.files_graph.specs.ClosureText.{edges_from}
use Rattle.files_graph.specs.GraphForms.{edge_item}
use Rattle.files_text.proofs.PrintedLemmas.{AppendsItems}
use Rattle.files_graph.proofs.closure.put_sets.Given as goal

abbrev pub invariant-loop-from : goal.invariant-loop-from
invariant-loop-from g l =
    AppendsItems (λ n. flat_map (edge_item l.names.form l.names.names l.first) (edges_from n (slice_index_or l.sets.rows n [])))
    (g.W.Write.contents l.fn.output) (g.W.Write.contents l.output)
    (range_with_len 0 (length l.sets.rows)) (range_with_len l.from (length l.sets.rows - l.from))
