-- The graph has the edges of the nodes.
use Rattle.std.proofs.Common.{◌≡◌, ◌+◌, ◌∙◌, length, arith}
use Rattle.vob_flow.proofs.AnyLemmas.{edge_inside}
use Rattle.vob_flow.proofs.chosen.chosen_graph.Goals as goal

pub returns-in-Ok : goal.returns-in-Ok
returns-in-Ok c =
    let made = c.in-Ok.ensures in
    let each = rw c.deref.ensures.value at made.each in
    let count : length c.in-Ok.chosen ≡ length c.args.nodes.now + 1 = made.nodes ∙ c.in-Some.ensures.1 in record {
      count = count;
      each = λ i j. (
        (λ within.
            let node = edge_inside c.in-Ok.chosen i j within in
            (c.in_ok-edges.ensures i j).0 ((each i j (omega (arith, node, made.nodes))).0 within)),
        (λ both.
            (each i j (omega (arith, both.0, c.in-Some.ensures.1))).1 ((c.in_ok-edges.ensures i j).1 both)),
      );
    }
