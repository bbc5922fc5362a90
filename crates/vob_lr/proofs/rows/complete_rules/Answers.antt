-- The set of the state rises, and there is none where there is no state.
use Rattle.std.proofs.Common.{◌<◌, ◌∙◌, ℕ, Global, List, [], Vec, ap, arith, get_or, length, subst, sym}
use Rattle.std.specs.List.{AllPairs}
use Rattle.std.proofs.lemmas.List.{get_or-map, length-map}
use Rattle.vob_lr.specs.Lookaheads.{Machine}
use Rattle.vob_lr.proofs.StateLemmas.{state_rises}
use Rattle.vob_lr.proofs.rows.complete_rules.Goals as goal

pub completed-requires : goal.completed-requires
completed-requires c =
    let m = c.args.lookaheads.now in
    let q = c.args.state in
    let states = c.automaton.ensures in
    let sets = c.automaton.result.now.sets.items in
    let lookup = rw c.deref.ensures.value at c.in-Some.ensures.lookup in
    let count = length-map sets (λ (v : Vec ℕ Global). v.items) in
    let less : q < length m.sets =
    omega (arith, count, lookup.3.0, ap (λ (z : Machine). length z.sets) states.machine) in
    let set = c.deref-in-Some.ensures.value ∙ ap (λ (v : Vec ℕ Global). v.items) lookup.1
    ∙ sym (get_or-map (λ (v : Vec ℕ Global). v.items) sets q c.in-Some.set.now [] lookup.3.0)
    ∙ ap (λ (z : Machine). get_or z.sets q []) states.machine in
    subst (λ (xs : List ℕ). AllPairs (λ i j. i < j) xs) (sym set)
    (state_rises m.grammar.rules.items (states.states.each q [] less))
