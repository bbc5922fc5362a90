-- The sets are those of the machine.
use Rattle.std.proofs.Common.{◌<◌, ◌∙◌, ℕ, Global, [], Vec, ap, arith, get_or, length, sym}
use Rattle.std.proofs.lemmas.List.{get_or-map, length-map}
use Rattle.vob_lr.specs.Lookaheads.{Machine}
use Rattle.files_grammar.proofs.state_text.set_of.Goals as goal

pub returns : goal.returns
returns c =
    let q = c.args.state in
    let sets = c.automaton.result.now.sets.items in
    let count = length-map sets (λ (v : Vec ℕ Global). v.items) in
    let low : q < length sets =
    omega (arith, c.requires, count, ap (λ (m : Machine). length m.sets) c.automaton.ensures.machine) in
    c.deref.ensures.value ∙ ap (λ (v : Vec ℕ Global). v.items) c.index-set.ensures
    ∙ sym (get_or-map (λ (v : Vec ℕ Global). v.items) sets q c.index-set.result.now [] low)
    ∙ ap (λ (m : Machine). get_or m.sets q []) c.automaton.ensures.machine
