-- A node that waited had its turn.
use Rattle.std.proofs.Common.{◌++◌, ◌∷◌, ◌≡◌, [], ap, length, arith, rules}
use Rattle.std.proofs.lemmas.List.{length_push}
use Rattle.std.proofs.lemmas.List.Elements.{Contains-push}
use Rattle.vob_flow.specs.Reach.{AreOnTheWay}
use Rattle.vob_flow.proofs.ReachLemmas.{AreOnTheWay-start, AreOnTheWay-turn, AreReached-whole, waiting_inside}
use Rattle.vob_flow.proofs.paths.reach.Goals as goal
use Rattle.vob_flow.proofs.paths.reach.Goals.{In-Some}

on_way : (c : In-Some) → AreOnTheWay c.args.next.now c.args.from.now c.turns.reached.bits
    (c.pop.new.self.items ++ c.in-Some.node ∷ [])
on_way c = rw c.in-Some.ensures.items at c.turns.invariant

pub turns-init : goal.turns-init
turns-init c = AreOnTheWay-start c.args.next.now _ _ _
    (rw (c.in_ok-reached.ensures.bits, c.nodes.ensures.count, c.in_ok-waiting.ensures.items)
    at c.in_ok-enter_all.ensures)

pub next-requires : goal.next-requires
next-requires c = waiting_inside _ _ _ _ _ (on_way (goal.at.next-requires c).In-Some) (Contains-push _ _)

pub enter_all-requires-in-Some : goal.enter_all-requires-in-Some
enter_all-requires-in-Some c = λ k d less. omega (
  arith,
  c.next.ensures.inside k d less,
  c.turns.invariant.len,
)

pub turns-preserved : goal.turns-preserved
turns-preserved c =
    let at = goal.at.turns-preserved c in
    AreOnTheWay-turn _ _ _ _ _ _ _ (on_way at.In-Some)
    (rw c.next.ensures.ends at c.in_ok-enter_all-2.ensures)

pub turns-smaller : goal.turns-smaller
turns-smaller c =
    let more = length_push c.pop.new.self.items c.in-Some.node in
    omega (arith, c.in_ok-enter_all-2.ensures.steps, ap length c.in-Some.ensures.items, more)

pub returns : goal.returns
returns c =
    let none : c.pop.new.self.items ≡ [] = search rules in
    AreReached-whole _ _ _ (rw (c.in_default.ensures.items, none) at c.turns.invariant)
