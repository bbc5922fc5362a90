-- One node more has its edges.
use Rattle.std.proofs.Common.{◌≡◌, length, get_or, subst, arith}
use Rattle.vob_flow.specs.Available.{IsEntry}
use Rattle.vob_flow.proofs.SpreadLemmas.{AreChosenEdges, chosen_more, chosen_none, where_is}
use Rattle.vob_flow.proofs.chosen.chosen_edges.Goals as goal

pub loop-at-init : goal.loop-at-init
loop-at-init c = rw c.new-edges.ensures.items (chosen_none c.args.entry c.args.graph.now c.args.nodes.now)

pub loop-at-preserved : goal.loop-at-preserved
loop-at-preserved c =
    let nodes = c.args.nodes.now in
    let at = c.loop-at.at in
    chosen_more c.args.entry c.args.graph.now nodes at _ _ _ _
    (rw c.next.ensures.ends at c.in_ok-push_chosen.ensures) c.in_ok-push_where.ensures
    (where_is c.is_entry.result (IsEntry c.args.entry (get_or nodes at 0)) at (length nodes) c.is_entry.ensures)
    c.loop-at.invariant

pub returns : goal.returns
returns c =
    let all : c.loop-at.at ≡ length c.args.nodes.now = omega (arith, c.loop-at-test.false, c.loop-at.auto.at-end) in
    subst (λ k. AreChosenEdges c.args.entry c.args.graph.now c.args.nodes.now k c.loop-at.edges.items) all c.loop-at.invariant
