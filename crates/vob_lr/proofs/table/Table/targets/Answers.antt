-- One move more.
use Rattle.std.proofs.Common.{◌<◌, ◌∙◌, Global, List, [], Vec, ap, arith, get_or, subst, sym, length}
use Rattle.std.proofs.lemmas.Bool.{false≢true}
use Rattle.std.proofs.lemmas.List.{get_or-map, length-map, take_all}
use Rattle.vob_lr.specs.Entered.{AreTargetsOf}
use Rattle.vob_lr.specs.Lookaheads.{Machine}
use Rattle.vob_lr.specs.declared.state.Move.{Move}
use Rattle.vob_lr.proofs.EnteredLemmas.{targets_none, targets_with, targets_without}
use Rattle.vob_lr.proofs.table.Table.targets.Goals.{then-is_left+in_ok-push, else-is_left}
use Rattle.vob_lr.proofs.table.Table.targets.Goals as goal

pub loop-place-init : goal.loop-place-init
loop-place-init c =
    rw c.new-list.ensures.items (targets_none c.args.self.now c.args.state c.index-moves.result.now.items)

pub loop-place-preserved : goal.loop-place-preserved
loop-place-preserved c =
    let moves = c.index-moves.result.now.items in
    let k = c.loop-place.place in
    let less : k < length moves =
    omega (arith, c.loop-place-test.true, c.len-place-end.ensures, c.index-moves.result.now.ok.0) in
    elim c.if-is_left.branch [
      | then-is_left+in_ok-push w ↦
          rw (w.list-is, w.in_ok-push.ensures.items)
          (targets_with c.args.self.now c.args.state moves k less c.index-step.result.now c.index-step.ensures
          c.loop-place.list.items c.loop-place.invariant (c.is_left.ensures.0 w.if-is_left.true))
      | else-is_left w ↦
          rw w.list-is
          (targets_without c.args.self.now c.args.state moves k less c.index-step.result.now c.index-step.ensures
          c.loop-place.list.items c.loop-place.invariant
          (λ own. false≢true (sym w.if-is_left.false ∙ c.is_left.ensures.1 own)))
    ]

pub returns : goal.returns
returns c =
    let q = c.args.state in
    let moves = c.index-moves.result.now in
    let rows = c.automaton.result.now.moves.items in
    let machine = c.automaton.ensures.machine ∙ c.lookaheads.ensures.machine in
    let count = length-map rows (λ (v : Vec Move Global). v.items) in
    let low : q < length rows =
    omega (arith, c.requires, count, ap (λ (m : Machine). length m.moves) machine, c.lookaheads.ensures.sound.states.count) in
    let row = ap (λ (v : Vec Move Global). v.items) c.index-moves.ensures
    ∙ sym (get_or-map (λ (v : Vec Move Global). v.items) rows q moves [] low)
    ∙ ap (λ (m : Machine). get_or m.moves q []) machine in
    let all = take_all c.loop-place.place moves.items
    (omega (arith, c.loop-place-test.false, c.len-place-end.ensures, moves.ok.0)) in
    subst (λ (xs : List Move). AreTargetsOf c.args.self.now q xs c.loop-place.list.items) (all ∙ row)
    c.loop-place.invariant
