-- An edge to a node more, if it isn't the first with its number.
use Rattle.std.proofs.Common.{◌≡◌, ◌+◌, ◌<◌, ◌∙◌, arith, get_or, length}
use Rattle.std.proofs.lemmas.List.{get_or_default}
use Rattle.files_graph.specs.Parts.{IsNextOf}
use Rattle.files_graph.proofs.EdgeLemmas.{AreLasts-more, gain_push, gain_same, next_push, next_same}
use Rattle.files_graph.proofs.reduction.put_next.Goals as goal
use Rattle.files_graph.proofs.reduction.put_next.Goals.{then-firsts-number+in_ok-push, else-firsts-number}

pub loop-node-preserved : goal.loop-node-preserved
loop-node-preserved c =
    let h = c.loop-node.invariant in
    let numbers = c.args.numbers.now in
    let k = c.loop-node.node in
    let old = c.args.edges.now.items in
    let mid = c.loop-node.edges.items in
    let lasts = c.loop-node.lasts.items in
    let number = get_or numbers k 0 in
    let low : number < length lasts = omega (arith, c.requires.inside k c.loop-node-test.true, h.lasts.long) in
    record {
      lasts = AreLasts-more numbers c.loop-node.lasts.items k h.lasts c.loop-node-test.true c.requires.inside;
      edges = elim c.if-firsts-number.branch [
        | then-firsts-number+in_ok-push w ↦ rw w.edges-is (gain_push old mid h.edges w.push.new.self.items _ _
            (IsNextOf numbers (k + 1)) (rw (w.index.ensures ∙ get_or_default lasts number w.index.result.now 0 low)
            at w.in_ok-push.ensures.items) (next_push numbers c.loop-node.lasts.items k
            h.lasts c.loop-node-test.true c.requires.inside c.args.firsts.now c.requires.firsts
            w.if-firsts-number.true))
        | else-firsts-number w ↦ rw w.edges-is (gain_same old mid h.edges (IsNextOf numbers (k + 1))
            (next_same numbers c.loop-node.lasts.items k h.lasts c.loop-node-test.true c.requires.inside
            c.args.firsts.now c.requires.firsts w.if-firsts-number.false))
      ];
    }

pub returns-clause-edges : goal.returns-clause-edges
returns-clause-edges c =
    let all : c.loop-node.node ≡ length c.args.numbers.now =
    omega (arith, c.loop-node-test.false, c.loop-node.auto.node-end) in
    rw all at c.loop-node.invariant.edges
