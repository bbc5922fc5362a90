-- The edges of a node more, and those of all nodes.
use Rattle.std.proofs.Common.{ℕ, List, [], length, subst, sym, ◌<◌, arith, inl, inr}
use Rattle.std.specs.List.{Contains}
use Rattle.std.proofs.lemmas.Bool.{cases_eq, cases_lt}
use Rattle.std.proofs.lemmas.List.{get_or_past}
use Rattle.vob_rows.specs.Graph.{LeadToNodes}
use Rattle.files_graph.specs.Parts.{IsLinkOf}
use Rattle.files_graph.proofs.ReductionLemmas.{leads_down, link_inside}
use Rattle.files_graph.proofs.reduction.links_of.Goals as goal

pub loop-node-preserved : goal.loop-node-preserved
loop-node-preserved c =
    let next = c.args.graph.now in
    let numbers = c.args.numbers.now in
    let node = c.loop-node.node in
    λ p q.
    let h = c.loop-node.invariant p q in
    let f = c.in_ok-put_links.ensures p q in (
      (λ there. elim (f.0 there) [
        | inl old ↦ let one = h.0 old in (one.0, omega (arith, one.1), one.2)
        | inr new ↦ (node, omega arith, new)
      ]),
      (λ one. f.1 (elim (cases_eq one.0 node) [
        | inl here ↦ inr (subst (λ x. IsLinkOf next numbers x p q) here one.2)
        | inr apart ↦ inl (h.1 (one.0, omega (arith, one.1, apart), one.2))
      ])),
    )

pub graph_of-requires : goal.graph_of-requires
graph_of-requires c n m there =
    let next = c.args.graph.now in
    let ends = subst (LeadToNodes next) c.nodes.ensures.count c.nodes.ensures.inside in
    let link = (c.loop-node.invariant n m).0 (rw c.deref.ensures.value at there) in
    subst (λ count. (n < count) × (m < count)) (sym c.nodes.ensures.count)
    (link_inside next ends c.args.numbers.now c.requires link.0 n m link.2)

pub returns-clause-links : goal.returns-clause-links
returns-clause-links c =
    let next = c.args.graph.now in
    let numbers = c.args.numbers.now in
    let made = c.in_ok-made.made in
    λ p q.
    let h = c.loop-node.invariant p q in
    let each = c.in_ok-made.ensures.each p q in (
      (λ edge. elim (cases_lt p (length made)) [
        | inl less ↦
            let one = h.0 (rw c.deref.ensures.value at ((each (omega (arith, less, c.in_ok-made.ensures.nodes))).0 edge)) in
            (one.0, one.2)
        | inr past ↦
            let none = subst (λ (xs : List ℕ). Contains xs q) (get_or_past made p [] past) edge in
            absurd (omega (arith, none.1))
      ]),
      (λ one. elim (cases_lt one.0 c.loop-node.node) [
        | inl less ↦
            let inside = c.requires.inside one.0 (omega (arith, less, c.loop-node-test.false, c.nodes-node-end.ensures.count)) in
            let (m, there, from, to, apart) = one.1 in
            (each (omega (arith, inside, from, c.nodes.ensures.count))).1
            (rw c.deref.ensures.value (h.1 (one.0, less, one.1)))
        | inr past ↦
            let none = get_or_past next one.0 [] (omega (arith, past, c.loop-node-test.false, c.nodes-node-end.ensures.count)) in
            let there = subst (λ (xs : List ℕ). Contains xs one.1.0) none one.1.1 in
            absurd (omega (arith, there.1))
      ]),
    )

pub returns-clause-down : goal.returns-clause-down
returns-clause-down c =
    let next = c.args.graph.now in
    let ends = subst (LeadToNodes next) c.nodes.ensures.count c.nodes.ensures.inside in
    leads_down next ends c.args.numbers.now c.requires c.in_ok-made.made (returns-clause-links c)
