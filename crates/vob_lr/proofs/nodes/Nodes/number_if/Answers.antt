-- The set is read, and the number is that of a member.
use Rattle.std.proofs.Common.{◌+◌, ◌<◌, ◌∙◌, ℕ, Global, List, [], Vec, ap, arith, subst, sym}
use Rattle.std.specs.List.{AllPairs, Contains}
use Rattle.std.proofs.lemmas.List.{get_or-map, length-map}
use Rattle.vob_flow.specs.Lists.{lists_of}
use Rattle.vob_lr.specs.Nodes.{place_of}
use Rattle.vob_lr.proofs.NodeLemmas.{node_below, node_inside}
use Rattle.vob_lr.proofs.nodes.Nodes.number_if.Goals as goal

pub find-requires : goal.find-requires
find-requires c =
    let sets = c.self.inside.sets.now in
    let lookup = c.in_ok-get.ensures.lookup in
    let items = c.deref.ensures.value ∙ ap (λ (v : Vec ℕ Global). v.items) lookup.1
    ∙ sym (get_or-map (λ (v : Vec ℕ Global). v.items) sets c.args.state c.in_ok-get.field-0.now [] lookup.3.0) in
    subst (λ (xs : List ℕ). AllPairs (λ i j. i < j) xs) (sym items)
    (c.self.invariant.0 c.args.state [] (omega (arith, lookup.3.0, length-map sets (λ v. v.items))))

pub overflow_add-result : goal.overflow_add-result
overflow_add-result c =
    let sets = c.self.inside.sets.now in
    let q = c.args.state in
    let lookup = c.in_ok-get.ensures.lookup in
    let items = c.deref.ensures.value ∙ ap (λ (v : Vec ℕ Global). v.items) lookup.1
    ∙ sym (get_or-map (λ (v : Vec ℕ Global). v.items) sets q c.in_ok-get.field-0.now [] lookup.3.0) in
    let found = c.in_ok-place.ensures.some in
    let there = subst (λ (xs : List ℕ). Contains xs c.args.item) items found.0 in
    let place = found.1 ∙ ap (λ (xs : List ℕ). place_of xs c.args.item) items in
    omega (
      arith,
      place,
      node_below (lists_of sets) q c.args.item there,
      c.self.invariant.1.each q 0 (omega (arith, lookup.3.0)),
      c.self.invariant.1.each (q + 1) 0 (omega (arith, lookup.3.0)),
    )

pub returns-clause-some : goal.returns-clause-some
returns-clause-some c =
    let sets = c.self.inside.sets.now in
    let q = c.args.state in
    let lookup = c.in_ok-get.ensures.lookup in
    let items = c.deref.ensures.value ∙ ap (λ (v : Vec ℕ Global). v.items) lookup.1
    ∙ sym (get_or-map (λ (v : Vec ℕ Global). v.items) sets q c.in_ok-get.field-0.now [] lookup.3.0) in
    let found = c.in_ok-place.ensures.some in
    let there = subst (λ (xs : List ℕ). Contains xs c.args.item) items found.0 in
    let place = found.1 ∙ ap (λ (xs : List ℕ). place_of xs c.args.item) items in
    let offset = c.self.invariant.1.each q 0 (omega (arith, lookup.3.0)) in
    rw (← c.self.view_is) (
      there,
      omega (arith, offset, place),
      omega (arith, offset, place, node_inside (lists_of sets) q c.args.item there),
    )
