-- One state more.
use Rattle.std.proofs.Common.{Global, Vec, ap, arith, length, ℕ, ◌∙◌}
use Rattle.std.proofs.lemmas.List.{length-map}
use Rattle.vob_lr.specs.Lookaheads.{Machine}
use Rattle.vob_lr.proofs.ConflictLemmas.{place_inside, places_of_all}
use Rattle.vob_lr.proofs.table.Table.places.Goals as goal

pub returns : goal.returns
returns c =
    let table = c.args.self.now in
    let count = length-map c.automaton.result.now.sets.items (λ (v : Vec ℕ Global). v.items) in
    let own = ap (λ (m : Machine). length m.sets) (c.automaton.ensures.machine ∙ c.lookaheads.ensures.machine) in
    places_of_all table c.args.question c.loop-state.state c.loop-state.found.items
    (λ place yes.
    let inside = place_inside table c.lookaheads.ensures.sound c.args.question place yes in
    omega (arith, inside.0, count, own, c.len-state-end.ensures))
    c.loop-state.invariant
