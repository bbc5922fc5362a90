-- The edges from the next node are written.
use Rattle.std.proofs.Common.{◌≡◌, ◌-◌, ◌<◌, [], ap, arith, length, slice_index_or}
use Rattle.std.specs.List.{range_with_len}
use Rattle.files_graph.specs.ClosureText.{edges_from}
use Rattle.files_graph.specs.GraphForms.{edge_item}
use Rattle.files_text.proofs.PrintedLemmas.{flat_map-flat_map, items_all, items_more, items_none, range_more, range_none}
use Rattle.files_graph.proofs.closure.put_sets.Goals as goal

pub loop-from-init : goal.loop-from-init
loop-from-init g c =
    let all : length c.args.sets.now.rows - 0 ≡ length c.args.sets.now.rows = omega arith in
    items_all _ _ _ _ (ap (range_with_len 0) all)

pub loop-from-preserved : goal.loop-from-preserved
loop-from-preserved g c =
    let from = c.loop-from.from in
    let inside : from < length c.args.sets.now.rows = omega arith in
    items_more _ _ _ _ _ _ _ _ (range_more from (length c.args.sets.now.rows) inside) c.loop-from.invariant
    (rw c.row.ensures.bits at c.in_ok-put_edges.ensures)

pub returns : goal.returns
returns g c =
    let sets = c.args.sets.now.rows in
    rw (flat_map-flat_map (edge_item c.args.names.now.form c.args.names.now.names c.args.first) (λ n. edges_from n (slice_index_or sets n []))
    (range_with_len 0 (length sets)))
    (items_none _ _ _ _ _ (range_none c.loop-from.from (length sets) (omega arith)) c.loop-from.invariant)
