-- The tops of roots are such numbers.
use Rattle.std.proofs.Common.{◌≡◌, ◌∙◌, arith, length}
use Rattle.files_graph.proofs.PartLemmas.{AreNumbered-tops}
use Rattle.files_graph.proofs.parts.numbers_of.Goals as goal

pub returns : goal.returns
returns c =
    let roots = c.args.components.now.roots in
    let all : c.loop-node.node ≡ length roots.items =
    omega (arith, c.loop-node-test.false, c.loop-node.auto.node-end, c.len-node-end.ensures, roots.ok.0) in
    let h = c.loop-node.invariant in
    AreNumbered-tops c.args.graph.now c.args.components.now c.in_ok-places.places.items c.in_ok-tops.tops.items
    c.loop-node.numbers.items c.requires c.in_ok-places.ensures
    (rw (c.deref.ensures.value, c.deref-2.ensures.value) at c.in_ok-tops.ensures)
    (h.long ∙ all ∙ c.requires.count) (λ n less. h.each n (omega (arith, less, all, c.requires.count)))
