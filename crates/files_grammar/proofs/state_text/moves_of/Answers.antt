-- The moves are those of the machine.
use Rattle.std.proofs.Common.{◌<◌, ◌∙◌, Global, [], Vec, ap, arith, get_or, length, sym}
use Rattle.std.proofs.lemmas.List.{get_or-map, length-map}
use Rattle.vob_lr.specs.Lookaheads.{Machine}
use Rattle.vob_lr.specs.declared.state.Move.{Move}
use Rattle.files_grammar.proofs.state_text.moves_of.Goals as goal

pub returns : goal.returns
returns c =
    let q = c.args.state in
    let rows = c.automaton.result.now.moves.items in
    let count = length-map rows (λ (v : Vec Move Global). v.items) in
    let low : q < length rows =
    omega (
      arith,
      c.requires,
      count,
      ap (λ (m : Machine). length m.moves) c.automaton.ensures.machine,
      c.automaton.ensures.states.count,
    ) in
    c.deref.ensures.value ∙ ap (λ (v : Vec Move Global). v.items) c.index-moves.ensures
    ∙ sym (get_or-map (λ (v : Vec Move Global). v.items) rows q c.index-moves.result.now [] low)
    ∙ ap (λ (m : Machine). get_or m.moves q []) c.automaton.ensures.machine
