-- The edges are those between components and within them.
use Rattle.std.proofs.Common.{length, subst, arith, inl, inr}
use Rattle.vob_rows.specs.Graph.{LeadToNodes}
use Rattle.files_graph.specs.Parts.{AreFirsts, AreLasts}
use Rattle.files_graph.proofs.ReductionLemmas.{back_is, between_is, direct_inside, next_is}
use Rattle.files_graph.proofs.reduction.edges_of.Goals as goal

pub put_between-requires : goal.put_between-requires
put_between-requires c =
    let next = c.args.graph.now in
    let ends = subst (LeadToNodes next) c.nodes-nodes.ensures.count c.nodes-nodes.ensures.inside in
    let h = c.requires.numbers in
    let d = c.requires.links in
    let f : AreFirsts c.args.numbers.now 0 c.in_ok-firsts.firsts.items = c.in_ok-firsts.ensures in
    let is = c.deref.ensures.value in
    λ p q there.
    let both = direct_inside next ends c.args.numbers.now h d.links d.are_links p q ((d.each p q).0 there) in
    rw (is, f.long, h.long) both

pub returns : goal.returns
returns c =
    let next = c.args.graph.now in
    let ends = subst (LeadToNodes next) c.nodes-nodes.ensures.count c.nodes-nodes.ensures.inside in
    let numbers = c.args.numbers.now in
    let h = c.requires.numbers in
    let d = c.requires.links in
    let firsts = c.in_ok-firsts.firsts.items in
    let lasts = c.in_ok-lasts.lasts.items in
    let f : AreFirsts numbers 0 firsts = c.in_ok-firsts.ensures in
    let g : AreLasts numbers (length numbers) lasts = c.in_ok-lasts.ensures.lasts in
    λ a b.
    let between = between_is next ends numbers h d.links d.are_links firsts f c.args.links.now d.each a b in
    let inner = next_is next ends numbers h a b in
    let back = back_is next ends numbers h d.links d.are_links firsts lasts f g a b in
    let last = c.in_ok-put_back.ensures a b in
    let middle = c.in_ok-lasts.ensures.edges a b in
    let start = c.in_ok-put_between.ensures a b in (
      (λ there. elim (last.0 there) [
        | inr new ↦ inr (inr (back.0 (rw (c.deref-3.ensures.value, c.deref-4.ensures.value) at new)))
        | inl old ↦ elim (middle.0 old) [
          | inr new ↦ inr (inl (inner.0 new))
          | inl first ↦ elim (start.0 first) [
            | inr joins ↦ inl (between.0 (rw c.deref.ensures.value at joins))
            | inl none ↦ absurd (omega (arith, (rw c.new-edges.ensures.items at none).1))
          ]
        ]
      ]),
      (λ is. last.1 (elim is [
        | inr (inr w) ↦ inr (rw (c.deref-3.ensures.value, c.deref-4.ensures.value) (back.1 w))
        | inr (inl w) ↦ inl (middle.1 (inr (inner.1 w)))
        | inl w ↦ inl (middle.1 (inl (start.1 (inr (rw c.deref.ensures.value (between.1 w))))))
      ])),
    )
