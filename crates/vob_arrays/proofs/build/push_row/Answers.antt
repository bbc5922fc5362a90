-- The entries at terminals, and then those at nonterminals.
use Rattle.std.proofs.Common.{◌∙◌, ℕ, Global, List, [], Vec, ap, arith, get_or, inl, inr, length, subst, sym}
use Rattle.std.proofs.lemmas.Bool.{ltb-false}
use Rattle.std.proofs.lemmas.List.{get_or-map, get_or_past, length-map}
use Rattle.std.proofs.lemmas.Result.{on_ok_weaker}
use Rattle.vob_lr.specs.Lookaheads.{Machine}
use Rattle.vob_lr.specs.declared.grammar.Grammar.{Grammar}
use Rattle.vob_lr.specs.declared.state.Move.{Move}
use Rattle.vob_arrays.specs.Arrays.{IsMoveEntry, IsTerminalEntry}
use Rattle.vob_arrays.specs.Building.{Appends}
use Rattle.vob_arrays.proofs.AppendLemmas.{appends_both, appends_same}
use Rattle.vob_arrays.proofs.build.push_row.Goals as goal

pub returns-in-Some : goal.returns-in-Some
returns-in-Some c =
    let lookup = rw c.deref.ensures.value at c.in-Some.ensures.lookup in
    let rows = c.automaton.result.now.moves.items in
    let row = ap (λ (v : Vec Move Global). v.items) lookup.1
    ∙ sym (get_or-map (λ (v : Vec Move Global). v.items) rows c.args.state c.in-Some.moves.now [] lookup.3.0) in
    let own = c.automaton.ensures.machine ∙ c.lookaheads-2.ensures.machine in
    let moves = c.deref-in-Some.ensures.value ∙ row
    ∙ ap (λ (m : Machine). get_or m.moves c.args.state []) own in
    let terminals = ap (λ (g : Grammar). g.terminals)
    (c.grammar.ensures ∙ c.items.ensures ∙ ap (λ (m : Machine). m.grammar) c.lookaheads.ensures.machine) in
    let before = c.push_actions.new.entries.items in
    let after = c.push_moves.new.entries.items in
    on_ok_weaker c.push_moves.result (λ more.
    appends_both c.in_ok-push_actions.ensures
    (subst (λ (ms : List Move). Appends (IsMoveEntry c.args.table.now.machine.grammar.terminals ms) before after)
    moves
    (subst (λ (n : ℕ). Appends (IsMoveEntry n c.deref-in-Some.result.now) before after) terminals more))
    (λ x a. ((λ e. e), (λ e. e)))) c.push_moves.ensures

pub returns-in-None : goal.returns-in-None
returns-in-None c =
    let table = c.args.table.now in
    let own = c.automaton.ensures.machine ∙ c.lookaheads-2.ensures.machine in
    let past = ltb-false c.args.state (length c.deref.result.now) (sym c.in-None.ensures.lookup.0) in
    let none = get_or_past table.machine.moves c.args.state []
    (omega (
      arith,
      past,
      ap (λ (vs : List (Vec Move Global)). length vs) c.deref.ensures.value,
      length-map c.automaton.result.now.moves.items (λ (v : Vec Move Global). v.items),
      ap (λ (m : Machine). length m.moves) own,
    )) in
    appends_same c.in_ok-push_actions.ensures (λ x a. (
      (λ e. elim e as (λ _. IsTerminalEntry table c.args.state x a) [
        | inl entry ↦ entry
        | inr move ↦
            let (k, low, _) = move.move in
            absurd (omega (arith, low, ap (λ (ms : List Move). length ms) none))
      ]),
      (λ entry. inl entry),
    ))
