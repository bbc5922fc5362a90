-- The set of the state has the item.
use Rattle.std.proofs.Common.{◌≡◌, ◌∙◌, ℕ, Global, List, [], Vec, ap, arith, get_or, subst, sym}
use Rattle.std.proofs.lemmas.List.{get_or-map}
use Rattle.vob_flow.proofs.PartsLemmas.{has_is}
use Rattle.vob_flow.specs.Lists.{has}
use Rattle.vob_lr.specs.Items.{Completes}
use Rattle.vob_lr.specs.Lookaheads.{Machine}
use Rattle.vob_lr.specs.declared.grammar.Grammar.{Grammar}
use Rattle.vob_lr.proofs.StepLemmas.{last_is}
use Rattle.vob_lr.proofs.table.Table.is_last.Goals as goal

pub returns-in-Some : goal.returns-in-Some
returns-in-Some c =
    let m = c.args.self.now.machine in
    let lookup = rw c.deref.ensures.value at c.in-Some.ensures.lookup in
    let sets = c.automaton.result.now.sets.items in
    let set = ap (λ (v : Vec ℕ Global). v.items) lookup.1
    ∙ sym (get_or-map (λ (v : Vec ℕ Global). v.items) sets c.args.state c.in-Some.set.now [] lookup.3.0) in
    let own = c.automaton.ensures.machine ∙ c.lookaheads-2.ensures.machine in
    let items = set ∙ ap (λ (n : Machine). get_or n.sets c.args.state []) own in
    let grammar_is = c.items-items.ensures ∙ ap (λ (n : Machine). n.grammar) c.lookaheads.ensures.machine in
    let grammar = c.grammar.ensures ∙ grammar_is in
    let done = subst (λ (g : Grammar). Completes g.rules.items 0 c.complete.result) grammar_is
    c.complete.ensures in
    let read = subst (λ (g : Grammar). c.index.result.now ≡ get_or g.rules.items 0 c.index.result.now)
    grammar c.index.ensures in
    let is = last_is m c.args.state c.args.count c.complete.result c.index.result.now done read
    (omega (arith, c.len.ensures, c.index.result.now.right.ok.0, c.if-len-count.false)) in
    let value = c.contains.ensures.value
    ∙ ap (λ (xs : List ℕ). has xs c.complete.result) (c.deref-in-Some.ensures.value ∙ items) in
    let there = has_is (get_or m.sets c.args.state []) c.complete.result in
    ((λ on. is.0 (there.0 (sym value ∙ on))), (λ last. value ∙ there.1 (is.1 last)))
