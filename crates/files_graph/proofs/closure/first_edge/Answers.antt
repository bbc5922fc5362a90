-- The set of the next node is empty.
use Rattle.std.proofs.Common.{◌≡◌, ◌-◌, ◌+◌, ◌<◌, ◌∙◌, [], ◌++◌, ap, arith, length, map, slice_index_or, sym}
use Rattle.std.specs.List.{flat_map}
use Rattle.files_text.specs.Printed.{members}
use Rattle.files_text.proofs.PrintedLemmas.{range_more}
use Rattle.files_graph.specs.ClosureText.{edges_from, edges_of}
use Rattle.files_graph.proofs.closure.first_edge.Goals as goal

pub loop-from-preserved : goal.loop-from-preserved
loop-from-preserved c =
    let sets = c.args.sets.now.rows in
    let from = c.loop-from.from in
    let inside : from < length sets = omega arith in
    let none : members (slice_index_or sets from []) ≡ [] =
    rw c.row.ensures.bits at (sym (c.iter_set_bits.ensures.fresh tt).whole.rest ∙ c.in_default.ensures.steps.gives.0) in
    c.loop-from.invariant
    ∙ ap (flat_map (λ n. edges_from n (slice_index_or sets n []))) (range_more from (length sets) inside)
    ∙ ap (λ own. map (λ to. (from, to)) own ++ edges_of sets (from + 1) (length sets - (from + 1))) none
