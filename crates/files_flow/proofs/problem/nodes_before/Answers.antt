-- One node more comes before others.
use Rattle.std.proofs.Common.{◌≡◌, ◌∙◌, [], arith, drop, length, sym}
use Rattle.std.proofs.lemmas.List.{get_or-map, take_at}
use Rattle.vob_flow.specs.declared.live.Flow.{Flow}
use Rattle.files_flow.specs.Problems.{next_of}
use Rattle.files_flow.proofs.ProblemLemmas.{before_all, before_more, before_none}
use Rattle.files_flow.proofs.problem.nodes_before.Goals as goal

pub loop-number-init : goal.loop-number-init
loop-number-init c = before_none _ _ c.in_ok-before.ensures

pub loop-number-preserved : goal.loop-number-preserved
loop-number-preserved c =
    let nodes = c.args.nodes.now in
    let number = c.loop-number.number in
    let after = c.add_to_each.new.lists in
    let own : next_of nodes number ≡ c.deref.result.now =
    get_or-map (λ (node : Flow). node.next.items) nodes number c.index-nodes-number.result [] c.loop-number-test.true
    ∙ sym c.deref.ensures.value in
    rw (take_at after (drop (length after) c.loop-number.before.items) c.loop-number.before.len
    (c.add_to_each.auto.lists ∙ c.deref_mut.ensures.len))
    (before_more nodes number _ _ c.loop-number.invariant
    (rw (← own, c.deref_mut.ensures.value) at c.in_ok-add_to_each.ensures))

pub returns : goal.returns
returns c =
    let all : c.loop-number.number ≡ length c.args.nodes.now =
    omega (arith, c.loop-number-test.false, c.loop-number.auto.number-end) in
    before_all _ _ (rw all at c.loop-number.invariant)
