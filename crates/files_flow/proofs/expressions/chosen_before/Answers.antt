-- One node more comes before others.
use Rattle.std.proofs.Common.{◌≡◌, ◌∙◌, [], List, Vec, Global, ℕ, ap, arith, cond, drop, length, sym}
use Rattle.std.specs.Prelude.{slice_index_or}
use Rattle.std.proofs.lemmas.List.{get_or-map, length-map, take_at}
use Rattle.vob_block.specs.Packing.{item}
use Rattle.vob_flow.specs.declared.live.Flow.{Flow}
use Rattle.files_flow.specs.Problems.{lists_of}
use Rattle.files_flow.proofs.ExpressionLemmas.{chosen_at, chosen_count, chosen_each, chosen_next, transposed_all, transposed_more}
use Rattle.files_flow.proofs.expressions.chosen_before.Goals as goal

pub loop-number-preserved : goal.loop-number-preserved
loop-number-preserved c =
    let nodes = c.args.nodes.now in
    let bits = c.args.chosen.now.bits in
    let k = c.loop-number.number in
    let after = c.add_if.new.lists in
    let own : slice_index_or (chosen_next nodes bits) k [] ≡ cond (item bits k) c.deref.result.now [] =
    chosen_at nodes bits k c.loop-number-test.true
    ∙ ap (λ (l : List ℕ). cond (item bits k) l [])
    (get_or-map (λ (node : Flow). node.next.items) nodes k c.index-nodes-number.result [] c.loop-number-test.true
    ∙ sym c.deref.ensures.value) in
    rw (take_at after (drop (length after) c.loop-number.before.items) c.loop-number.before.len
    (c.add_if.auto.lists ∙ c.deref_mut.ensures.len))
    (transposed_more (length nodes) (chosen_next nodes bits) k _ _ c.loop-number.invariant
    (rw (c.is_in.ensures, ← own, c.deref_mut.ensures.value) at c.in_ok-add_if.ensures))

pub returns : goal.returns
returns c =
    let nodes = c.args.nodes.now in
    let bits = c.args.chosen.now.bits in
    let many = chosen_count nodes bits in
    let all = transposed_all (length nodes) (chosen_next nodes bits) (lists_of c.loop-number.before.items)
    c.loop-number.number (omega (arith, c.loop-number-test.false, many)) c.loop-number.invariant in (
      sym (length-map c.loop-number.before.items (λ (v : Vec ℕ Global). v.items)) ∙ c.loop-number.invariant.many,
      chosen_each nodes bits (lists_of c.loop-number.before.items) all,
    )
