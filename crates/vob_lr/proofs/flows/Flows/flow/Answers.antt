-- Nothing flows from an item that is complete, and what is behind it else.
use Rattle.std.proofs.Common.{inl, inr, subst, sym}
use Rattle.std.proofs.lemmas.Option.{none-some}
use Rattle.std.proofs.lemmas.Result.{on_ok_weaker}
use Rattle.vob_lr.specs.Flows.{FlowsFrom, HasTables}
use Rattle.vob_lr.specs.Items.{HasNext}
use Rattle.vob_lr.specs.Lookaheads.{Machine}
use Rattle.vob_lr.specs.declared.grammar.Symbol.{Symbol}
use Rattle.vob_lr.proofs.EquationLemmas.{GainEach-as, GainEach-both, GainEach-none}
use Rattle.vob_lr.proofs.FlowLemmas.{flows_kept, flows_nowhere}
use Rattle.vob_lr.proofs.flows.Flows.flow.Goals as goal

pub returns-in-None-clause-flows : goal.returns-in-None-clause-flows
returns-in-None-clause-flows c =
    let h = subst (λ (z : Machine). HasTables z c.self.inside.nullable.now.bits
    c.self.inside.first.now.rows c.self.inside.opens.now.starts) c.self.view_is
    c.self.invariant in
    GainEach-none _ _ (flows_nowhere _ _ _ _ h c.args.state c.args.number
    (λ x next. none-some x ((c.in-None.ensures x).1
    (subst (λ (z : Machine). HasNext z.grammar.rules.items c.args.number x) (sym c.self.view_is) next))))

pub open-requires-clause-next : goal.open-requires-clause-next
open-requires-clause-next c =
    let j = c.args.number in
    let ahead = subst (λ (z : Machine). HasNext z.grammar.rules.items j c.in-Some.symbol)
    c.self.view_is ((c.next.ensures c.in-Some.symbol).0 c.in-Some.is) in
    subst (λ (x : Symbol). HasNext c.args.self.now.grammar.rules.items j x) c.in-Nonterminal.is ahead

pub returns-in-Terminal-clause-flows : goal.returns-in-Terminal-clause-flows
returns-in-Terminal-clause-flows c =
    let m = c.args.self.now in
    let q = c.args.state in
    let j = c.args.number in
    let ahead = subst (λ (z : Machine). HasNext z.grammar.rules.items j c.in-Some.symbol)
    c.self.view_is ((c.next.ensures c.in-Some.symbol).0 c.in-Some.is) in
    let h = subst (λ (z : Machine). HasTables z c.self.inside.nullable.now.bits
    c.self.inside.first.now.rows c.self.inside.opens.now.starts) c.self.view_is
    c.self.invariant in
    let next = subst (λ (x : Symbol). HasNext m.grammar.rules.items j x) c.in-Terminal.is ahead in
    GainEach-as (FlowsFrom m q j) c.in_ok-keep.ensures (flows_kept m _ _ _ h q j _ next)

pub returns-in-Nonterminal-clause-flows : goal.returns-in-Nonterminal-clause-flows
returns-in-Nonterminal-clause-flows c =
    let m = c.args.self.now in
    let q = c.args.state in
    let j = c.args.number in
    on_ok_weaker c.open.result (λ made.
    GainEach-both (FlowsFrom m q j) made c.in_ok-keep.ensures (λ n y. (
      (λ a. elim a [ inl kept ↦ inr kept | inr opened ↦ inl opened ]),
      (λ a. elim a [ inl opened ↦ inr opened | inr kept ↦ inl kept ]),
    ))) c.open.ensures.opened
