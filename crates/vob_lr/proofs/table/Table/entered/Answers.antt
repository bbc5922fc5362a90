-- What the graph reaches.
use Rattle.std.proofs.Common.{◌≡◌, ◌<◌, ◌∙◌, ◌∷◌, List, ℕ, Global, Vec, [], ap, arith, length, map, refl, subst}
use Rattle.std.proofs.lemmas.List.Elements.{All-cons, All-nil}
use Rattle.vob_flow.specs.Reach.{AreReached}
use Rattle.vob_lr.specs.ItemSets.InClosure.{inside}
use Rattle.vob_lr.proofs.EnteredLemmas.{entered_are}
use Rattle.vob_lr.proofs.SetLemmas.{set_inside}
use Rattle.vob_lr.proofs.table.Table.entered.Goals as goal

pub reach-requires : goal.reach-requires
reach-requires c =
    let sets = c.args.self.now.machine.sets in
    let some : 0 < length sets =
    set_inside sets 0 0 ((c.lookaheads-states.ensures.sound.states.first.each 0).1 (inside refl)) in
    let same = c.in-Ok.ensures.lists
    ∙ ap (map (λ (v : Vec ℕ Global). v.items)) c.deref.ensures.value in
    let long : length c.in-Ok.graph ≡ length sets = ap length same ∙ c.in_ok-lists.ensures.count in
    All-cons (λ (node : ℕ). node < length c.in-Ok.graph) 0 [] (omega (arith, some, long))
    (All-nil (λ (node : ℕ). node < length c.in-Ok.graph))

pub returns : goal.returns
returns c =
    let same = c.in-Ok.ensures.lists
    ∙ ap (map (λ (v : Vec ℕ Global). v.items)) c.deref.ensures.value in
    entered_are c.args.self.now c.lookaheads-states.ensures.sound (map (λ (v : Vec ℕ Global). v.items) c.in_ok-lists.lists.items)
    c.in_ok-lists.ensures c.in_ok-set.set.bits
    (subst (λ (next : List (List ℕ)). AreReached next (0 ∷ []) c.in_ok-set.set.bits) same c.in_ok-set.ensures)
