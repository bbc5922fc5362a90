-- One edge more.
use Rattle.std.proofs.Common.{◌∙◌, drop, get_or, length, subst, take}
use Rattle.std.proofs.lemmas.List.{take_all, take_at, take_more}
use Rattle.files_flow.specs.DotFlows.{AreFrom}
use Rattle.files_flow.specs.Problems.{lists_of}
use Rattle.files_flow.proofs.FromLemmas.{from_more, from_none}
use Rattle.files_flow.proofs.dot.nodes_from.Goals as goal

pub loop-number-init : goal.loop-number-init
loop-number-init c = from_none _ _ c.in_ok-before.ensures

pub loop-number-preserved : goal.loop-number-preserved
loop-number-preserved c =
    let edges = c.args.edges.now in
    let number = c.loop-number.number in
    let after = c.add_to.new.lists in
    let edge = get_or edges number (0, 0) in
    rw (
      take_at after (drop (length after) c.loop-number.before.items) c.loop-number.before.len
          (c.add_to.auto.lists ∙ c.deref_mut.ensures.len),
      take_more edges number (0, 0) c.loop-number-test.true,
    )
    (from_more c.args.count (take number edges) edge.0 edge.1 _ _ c.loop-number.invariant
    (rw c.deref_mut.ensures.value at c.in_ok-add_to.ensures))

pub returns : goal.returns
returns c =
    subst (λ l. AreFrom c.args.count l (lists_of c.loop-number.before.items))
    (take_all c.loop-number.number c.args.edges.now c.loop-number-test.false) c.loop-number.invariant
