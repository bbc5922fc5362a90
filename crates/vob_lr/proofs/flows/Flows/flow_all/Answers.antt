-- One state more flows.
use Rattle.std.proofs.Common.{◌≡◌, ◌∙◌, ℕ, Global, Vec, ap, arith, length, subst}
use Rattle.std.proofs.lemmas.List.{length-map}
use Rattle.vob_lr.specs.Equations.{GainEach}
use Rattle.vob_lr.specs.Flows.{FlowsOf, HasTables}
use Rattle.vob_lr.specs.Walked.{IsOfFirst}
use Rattle.vob_lr.specs.Lookaheads.{Machine}
use Rattle.vob_lr.specs.declared.state.Move.{Move}
use Rattle.vob_lr.proofs.EquationLemmas.{GainEach-both}
use Rattle.vob_lr.proofs.FlowLemmas.{first_more}
use Rattle.vob_lr.proofs.flows.Flows.flow_all.Goals as goal

pub flow_state-requires-clause-state : goal.flow_state-requires-clause-state
flow_state-requires-clause-state c =
    let h = subst (λ (z : Machine). HasTables z c.self.inside.nullable.now.bits
    c.self.inside.first.now.rows c.self.inside.opens.now.starts) c.self.view_is
    c.self.invariant in
    let count = length-map c.self.inside.moves.now (λ (list : Vec Move Global). list.items) in
    let all = ap (λ (z : Machine). length z.moves) c.self.view_is in
    omega (arith, count, all, h.states.count)

pub loop-state-preserved : goal.loop-state-preserved
loop-state-preserved c = record {
  len = c.flow_state.ensures.len ∙ c.loop-state.invariant.len;
  flows = GainEach-both _ c.in_ok-flow_state.ensures.flows
      c.loop-state.invariant.flows
      (first_more (λ q n y. FlowsOf c.args.self.now q n y) c.loop-state.state);
}

pub returns : goal.returns
returns c =
    let h = subst (λ (z : Machine). HasTables z c.self.inside.nullable.now.bits
    c.self.inside.first.now.rows c.self.inside.opens.now.starts) c.self.view_is
    c.self.invariant in
    let count = length-map c.self.inside.moves.now (λ (list : Vec Move Global). list.items) in
    let all = ap (λ (z : Machine). length z.moves) c.self.view_is in
    let end : c.loop-state.state ≡ length c.args.self.now.sets =
    omega (arith, count, all, h.states.count) in
    subst (λ (k : ℕ). GainEach (IsOfFirst k (λ q n y. FlowsOf c.args.self.now q n y))
    c.args.equations.now c.loop-state.equations) end c.loop-state.invariant.flows
