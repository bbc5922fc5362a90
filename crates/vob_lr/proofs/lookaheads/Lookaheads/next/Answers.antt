-- The moves of a state are in the order of their symbols.
use Rattle.std.proofs.Common.{◌≡◌, ◌↔◌, ◌<◌, ◌∙◌, ℕ, [], Global, List, Some, Vec, ap, arith, get_or, length, subst}
use Rattle.std.specs.List.{Contains}
use Rattle.std.proofs.lemmas.List.{length-map}
use Rattle.vob_flow.specs.Lists.{lists_of}
use Rattle.vob_lr.specs.Lookaheads.{Machine}
use Rattle.vob_lr.specs.declared.state.Move.{Move}
use Rattle.vob_lr.proofs.MoveLemmas.{row_read}
use Rattle.vob_lr.proofs.lookaheads.Lookaheads.next.Goals as goal

pub find_move-requires : goal.find_move-requires
find_move-requires c =
    let lists = c.self.inside.automaton.moves.items in
    let lookup = rw c.deref.ensures.value at c.in_ok-get.ensures.lookup in
    let row = row_read lists c.args.state c.in_ok-get.field-0.now lookup.3.0 lookup.1 in
    let count = length-map lists (λ (list : Vec Move Global). list.items) in
    let low : c.args.state < length (lists_of c.self.inside.automaton.sets.items) =
    omega (arith, lookup.3.0, count, c.self.invariant.states.count) in
    rw (c.deref-in_ok-get.ensures.value, row) (c.self.invariant.states.moves_of c.args.state low).rise

pub returns : goal.returns
returns c =
    let lists = c.self.inside.automaton.moves.items in
    let lookup = rw c.deref.ensures.value at c.in_ok-get.ensures.lookup in
    let row = row_read lists c.args.state c.in_ok-get.field-0.now lookup.3.0 lookup.1 in
    subst (λ (moves : List Move). (p : ℕ) → (c.find_move.result ≡ Some p)
    ↔ Contains moves (record { symbol = c.args.symbol; state = p }))
    (c.deref-in_ok-get.ensures.value ∙ row
    ∙ ap (λ (m : Machine). get_or m.moves c.args.state []) c.self.view_is) c.find_move.ensures
