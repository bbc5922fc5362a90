-- The highest end that is missing is the end of a direct edge.
use Rattle.std.proofs.Common.{◌≡◌, ◌≤◌, ℕ, List, true, false, refl, sym, subst, arith, inl, inr}
use Rattle.std.specs.List.{Contains}
use Rattle.std.proofs.lemmas.Bool.{cases_lt, false_from_ne_true}
use Rattle.vob_block.specs.Packing.{item}
use Rattle.vob_block.proofs.PackingLemmas.{true_inside}
use Rattle.files_graph.proofs.DirectLemmas.{IsSearch-found, found_fewer, picked_all, picked_more, picked_none}
use Rattle.files_graph.proofs.direct.put_direct.Goals as goal
use Rattle.files_graph.proofs.direct.put_direct.Goals.{In-Some}

pub ends-init : goal.ends-init
ends-init c =
    let links = c.args.links.now in
    picked_none links c.args.node c.want-lowest.result c.args.edges.now.items c.args.node
    c.want-lowest.new.search c.requires.down (rw c.requires.clear.seen_long at c.want-lowest.ensures.search)
    (rw c.next.ensures.ends at c.want-lowest.ensures.from links) refl

missing : (c : In-Some) → item c.ends.search.missing.bits c.in-Some.end ≡ true
missing c = c.in-Some.ensures.inside.1

highest : (c : In-Some) → (t : ℕ) → item c.ends.search.missing.bits t ≡ true → t ≤ c.in-Some.end
highest c t on = elim (cases_lt c.in-Some.end t) [
  | inl past ↦
      let last = (c.in-Some.ensures.previous.some c.in-Some.end).0 refl in
      absurd (last.between t past (c.ends.invariant.below t on) (true_inside c.ends.search.missing.bits t on) on)
  | inr most ↦ most
]

off : (c : In-Some) → item c.ends.search.seen.bits c.in-Some.end ≡ false
off c = ((c.ends.invariant.from.wanted c.in-Some.end).0 (missing c)).1

pub follow-requires : goal.follow-requires
follow-requires c =
    let at = (goal.at.follow-requires c).In-Some in
    IsSearch-found c.ends.search c.find.new.search c.in-Some.end c.in_ok-find.ensures _ c.ends.invariant.state
    (off at)

pub ends-smaller : goal.ends-smaller
ends-smaller c =
    let at = (goal.at.ends-smaller c).In-Some in
    let fewer = found_fewer c.ends.search c.find.new.search c.in-Some.end _ c.in_ok-find.ensures
    c.ends.invariant.state (missing at) in
    omega (arith, fewer, c.in_ok-follow.ensures.fewer)

pub ends-preserved : goal.ends-preserved
ends-preserved c =
    let at = (goal.at.ends-preserved c).In-Some in
    let links = c.args.links.now in
    let h = c.ends.invariant in
    let fewer = found_fewer c.ends.search c.find.new.search c.in-Some.end _ c.in_ok-find.ensures h.state
    (missing at) in
    let f = c.in_ok-follow.ensures in
    picked_more links c.args.node c.want-lowest.result c.args.edges.now.items c.ends.at c.ends.edges.items
    c.ends.search c.requires.down
    (λ t edge. c.want-lowest.ensures.lowest t (subst (λ (xs : List ℕ). Contains xs t) (sym c.next.ensures.ends) edge))
    h c.in-Some.end c.find.new.search c.follow.new.search c.push.new.self.items (missing at) (highest at)
    (λ e. omega (arith, fewer, e)) c.in_ok-push.ensures.items c.in_ok-find.ensures f.search f.from f.kept f.done

pub returns-clause-direct : goal.returns-clause-direct
returns-clause-direct c =
    let links = c.args.links.now in
    picked_all links c.args.node c.want-lowest.result c.args.edges.now.items c.ends.at c.ends.edges.items
    c.ends.search c.requires.down
    (λ t edge. c.want-lowest.ensures.lowest t (subst (λ (xs : List ℕ). Contains xs t) (sym c.next.ensures.ends) edge))
    c.ends.invariant (λ t. false_from_ne_true _ (λ on. c.in_default.ensures.previous.none.0 refl t
    (c.ends.invariant.below t on) (true_inside c.ends.search.missing.bits t on) on))
