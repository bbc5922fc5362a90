-- A node kills what is in the sets of the variables that it writes. Those of no place there have none.
use Rattle.std.proofs.Common.{◌≡◌, ◌↔◌, ◌+◌, ◌<◌, ◌∙◌, ℕ, Vec, Global, [], inl, inr, Contains, get_or, map, ap, sym, subst, arith}
use Rattle.std.proofs.lemmas.List.{get_or-map, length-map}
use Rattle.vob_rows.proofs.SparseLemmas.{cases_contains}
use Rattle.vob_flow.specs.Closure.{IsEdge}
use Rattle.vob_flow.specs.Draws.{IsIn}
use Rattle.vob_flow.specs.Lists.{lists_of}
use Rattle.vob_flow.specs.Parts.{chosen}
use Rattle.vob_flow.specs.Touched.{place_in}
use Rattle.vob_flow.proofs.AnyLemmas.{Any-map, edge_inside}
use Rattle.vob_flow.proofs.TouchedLemmas.{place_contains, place_out, place_there}
use Rattle.vob_flow.proofs.lists.chosen_kills.Goals as goal
use Rattle.vob_flow.proofs.lists.chosen_kills.Goals.{In_ok-sets}

-- the set of a variable's place has what the variable has
has_own : (c : In_ok-sets) (x j : ℕ) → j < c.args.count →
    IsIn c.in_ok-sets.sets.rows (place_in c.in_ok-own.own.items x) j
    ↔ Contains (get_or (lists_of c.args.lists.now.by_variable.now) x []) (c.args.start + j)
has_own c x j low =
    let lists = lists_of c.args.lists.now.by_variable.now in
    let as_many = length-map c.args.lists.now.by_variable.now (λ (v : Vec ℕ Global). v.items) in
    let own = c.in_ok-own.own.items in
    let is = rw c.deref-2.ensures.value at (c.in_ok-sets.ensures.each (place_in own x) j) in
    elim (cases_contains own x) [
      | inl known ↦
          let there = place_contains own x known in
          let same : chosen lists own (place_in own x) ≡ get_or lists x [] =
          get_or-map (λ n. get_or lists n []) own (place_in own x) 0 [] there
          ∙ ap (λ n. get_or lists n []) (place_there own x there) in (
            (λ e. subst (λ l. Contains l (c.args.start + j)) same (is.0 e).1),
            (λ within. is.1 (low, subst (λ l. Contains l (c.args.start + j)) (sym same) within)),
          )
      | inr none ↦ (
        (λ e. absurd (omega (
          arith,
          place_out own x none,
          edge_inside (map (λ n. get_or lists n []) own) (place_in own x) _ (is.0 e).1,
          length-map own (λ n. get_or lists n []),
        ))),
        (λ within.
            let inside = edge_inside lists x _ within in
            absurd (none (c.in_ok-own.ensures.starts x j (omega (arith, inside, as_many)) low
            (subst (λ k. IsEdge c.args.owners.now (k + (c.args.start + j)) x) as_many
            (c.requires.owners.lead x (c.args.start + j) inside within))))),
      )
    ]

pub chosen_unions-requires-clause-noted : goal.chosen_unions-requires-clause-noted
chosen_unions-requires-clause-noted c = rw (c.deref-3.ensures.value, c.deref-4.ensures.value)
    (rw c.deref.ensures.value at c.in_ok-places.ensures)

pub returns-clause-each : goal.returns-clause-each
returns-clause-each c = λ i j low.
    let own = chosen (lists_of c.args.lists.now.writes.now) c.args.nodes.now i in
    let at = (goal.at.returns-clause-each c).In_ok-sets in
    let is = rw c.deref-3.ensures.value at (c.in_ok-kills.ensures.each i j) in (
      (λ e. Any-map _ _ own (λ x on. (has_own at x j low).0 on) (is.0 e)),
      (λ some. is.1 (Any-map _ _ own (λ x within. (has_own at x j low).1 within) some)),
    )
