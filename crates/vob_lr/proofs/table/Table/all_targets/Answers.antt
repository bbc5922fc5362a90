-- One state more.
use Rattle.std.proofs.Common.{◌≡◌, ◌∙◌, ◌∷◌, ℕ, Global, [], Vec, ap, arith, length, subst}
use Rattle.std.proofs.lemmas.List.{length-map, map-append}
use Rattle.vob_flow.specs.Lists.{lists_of}
use Rattle.vob_lr.specs.Entered.{AreTargetsBelow}
use Rattle.vob_lr.specs.Lookaheads.{Machine}
use Rattle.vob_lr.proofs.EnteredLemmas.{below_more, below_none}
use Rattle.vob_lr.proofs.table.Table.all_targets.Goals as goal

pub loop-state-init : goal.loop-state-init
loop-state-init c =
    rw c.new-lists.ensures.items (below_none c.args.self.now)

pub targets-requires : goal.targets-requires
targets-requires c =
    let count = length-map c.automaton.result.now.sets.items (λ (v : Vec ℕ Global). v.items) in
    let own = ap (λ (m : Machine). length m.sets) (c.automaton.ensures.machine ∙ c.lookaheads.ensures.machine) in
    omega (arith, count, own, c.len-state-end.ensures, c.automaton.result.now.sets.ok.0)

pub loop-state-preserved : goal.loop-state-preserved
loop-state-preserved c =
    let list = c.in_ok-targets.field-0 in
    let lists = c.loop-state.lists.items in
    rw (c.in_ok-push.ensures.items, map-append (λ (v : Vec ℕ Global). v.items) lists (list ∷ []))
    (below_more c.args.self.now c.loop-state.state (lists_of lists) list.items c.loop-state.invariant
    c.in_ok-targets.ensures)

pub returns : goal.returns
returns c =
    let count = length-map c.automaton.result.now.sets.items (λ (v : Vec ℕ Global). v.items) in
    let own = ap (λ (m : Machine). length m.sets) (c.automaton.ensures.machine ∙ c.lookaheads.ensures.machine) in
    let all : c.loop-state.state ≡ length c.args.self.now.machine.sets =
    omega (arith, count, own, c.len-state-end.ensures, c.automaton.result.now.sets.ok.0) in
    subst (λ (n : ℕ). AreTargetsBelow c.args.self.now n (lists_of c.loop-state.lists.items)) all
    c.loop-state.invariant
