-- An edge to the component of an end more, if it is another one.
use Rattle.std.proofs.Common.{get_or, arith, take}
use Rattle.std.proofs.lemmas.List.{take_all, take_more}
use Rattle.files_graph.specs.Parts.{IsLinkTo}
use Rattle.files_graph.proofs.EdgeLemmas.{gain_push, gain_same, link_push, link_same}
use Rattle.files_graph.proofs.reduction.put_links.Goals as goal
use Rattle.files_graph.proofs.reduction.put_links.Goals.{then-part-other+in_ok-push, else-part-other}

pub loop-end-preserved : goal.loop-end-preserved
loop-end-preserved c =
    let h = c.loop-end.invariant in
    let numbers = c.args.numbers.now in
    let ends = c.next-ends.result.now in
    let k = c.loop-end.end-index in
    let node = c.args.node in
    let all = take_more ends k 0 c.loop-end-test.true in
    rw all (elim c.if-part-other.branch [
      | then-part-other+in_ok-push w ↦ rw w.links-is (gain_push c.args.links.now.items c.loop-end.links.items h
          w.push.new.self.items _ _ (IsLinkTo numbers _ node) w.in_ok-push.ensures.items
          (link_push numbers (take k ends) (get_or ends k 0) node w.if-part-other.true))
      | else-part-other w ↦ rw w.links-is (gain_same c.args.links.now.items c.loop-end.links.items h
          (IsLinkTo numbers _ node)
          (link_same numbers (take k ends) (get_or ends k 0) node w.if-part-other.false))
    ])

pub returns : goal.returns
returns c =
    let ends = c.next-ends.result.now in
    rw (take_all c.loop-end.end-index ends (omega (arith, c.loop-end-test.false)), c.next-ends.ensures.ends)
    at c.loop-end.invariant
