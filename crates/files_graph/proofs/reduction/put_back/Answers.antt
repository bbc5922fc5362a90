-- An edge from a node more, if it is the last with its number, on a cycle.
use Rattle.std.proofs.Common.{◌≡◌, ◌+◌, ◌∙◌, arith, length, sym}
use Rattle.std.proofs.lemmas.Bool.{false≢true}
use Rattle.files_graph.specs.Parts.{IsLastOf}
use Rattle.files_graph.proofs.EdgeLemmas.{back_push, back_same, gain_push, gain_same}
use Rattle.files_graph.proofs.reduction.put_back.Goals as goal
use Rattle.files_graph.proofs.reduction.put_back.Goals.{then-lasts-number+then-is_on_cycle+in_ok-push, else-lasts-number, else-lasts-number-via-then-lasts-number+else-is_on_cycle, else-lasts-number-via-else-lasts-number}

pub loop-node-preserved : goal.loop-node-preserved
loop-node-preserved c =
    let next = c.args.graph.now in
    let numbers = c.args.numbers.now in
    let firsts = c.args.firsts.now in
    let lasts = c.args.lasts.now in
    let k = c.loop-node.node in
    let old = c.args.edges.now.items in
    let mid = c.loop-node.edges.items in
    elim c.if-lasts-number.branch [
      | then-lasts-number+then-is_on_cycle+in_ok-push w ↦ rw w.edges-is (gain_push old mid c.loop-node.invariant
          w.push.new.self.items _ _ (IsLastOf next numbers firsts lasts (k + 1)) w.in_ok-push.ensures.items
          (back_push next numbers firsts lasts k w.if-lasts-number.true
          (w.is_on_cycle.ensures.0 w.if-is_on_cycle.true)))
      | else-lasts-number w ↦ rw w.edges-is (gain_same old mid c.loop-node.invariant
          (IsLastOf next numbers firsts lasts (k + 1)) (back_same next numbers firsts lasts k
          (λ both. elim w.else-lasts-number.branch [
            | else-lasts-number-via-then-lasts-number+else-is_on_cycle v ↦
                false≢true (sym v.if-is_on_cycle.false ∙ v.is_on_cycle.ensures.1 both.1)
            | else-lasts-number-via-else-lasts-number v ↦ v.if-lasts-number.false both.0
          ])))
    ]

pub returns : goal.returns
returns c =
    let all : c.loop-node.node ≡ length c.args.numbers.now =
    omega (arith, c.loop-node-test.false, c.loop-node.auto.node-end) in
    rw all at c.loop-node.invariant
