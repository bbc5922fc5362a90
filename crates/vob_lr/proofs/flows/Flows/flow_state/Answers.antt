-- One item more flows.
use Rattle.std.proofs.Common.{◌≡◌, ◌<◌, ◌∙◌, ℕ, List, [], ap, arith, get_or, length, subst}
use Rattle.std.specs.List.{Contains}
use Rattle.std.proofs.lemmas.List.Elements.{Contains-get_or}
use Rattle.vob_lr.specs.Equations.{GainEach}
use Rattle.vob_lr.specs.Flows.{FlowsFrom, FlowsOf, HasTables}
use Rattle.vob_lr.specs.Lookaheads.{Machine}
use Rattle.vob_lr.specs.Walked.{IsOfFirst}
use Rattle.vob_lr.proofs.EquationLemmas.{GainEach-as, GainEach-both}
use Rattle.vob_lr.proofs.FlowLemmas.{first_more, flows_each}
use Rattle.vob_lr.proofs.flows.Flows.flow_state.Goals as goal

pub flow-requires-clause-item : goal.flow-requires-clause-item
flow-requires-clause-item c =
    let q = c.args.state in
    let set = c.items-items.ensures ∙ ap (λ (m : Machine). get_or m.sets q []) c.self.view_is in
    let less : c.loop-place.place < length c.items-items.result.now = omega arith in
    let k = c.loop-place.place in
    subst (λ (xs : List ℕ). Contains xs (get_or c.items-items.result.now k 0)) set
    (Contains-get_or c.items-items.result.now k 0 less)

pub loop-place-preserved : goal.loop-place-preserved
loop-place-preserved c =
    let m = c.args.self.now in
    let q = c.args.state in
    let k = c.loop-place.place in
    let set = c.items-items.ensures ∙ ap (λ (m : Machine). get_or m.sets q []) c.self.view_is in
    let Each = λ (k : ℕ). FlowsFrom m q (get_or (get_or m.sets q []) k 0) in record {
      len = c.flow.ensures.len ∙ c.loop-place.invariant.len;
      flows = GainEach-both _ (subst (λ (i : ℕ). GainEach (FlowsFrom m q i) c.loop-place.equations c.flow.new.equations)
          (ap (λ (xs : List ℕ). get_or xs k 0) set) c.in_ok-flow.ensures.flows)
          c.loop-place.invariant.flows (first_more Each k);
    }

pub returns-clause-flows : goal.returns-clause-flows
returns-clause-flows c =
    let m = c.args.self.now in
    let q = c.args.state in
    let h = subst (λ (z : Machine). HasTables z c.self.inside.nullable.now.bits
    c.self.inside.first.now.rows c.self.inside.opens.now.starts) c.self.view_is
    c.self.invariant in
    let set = c.items-items.ensures ∙ ap (λ (m : Machine). get_or m.sets q []) c.self.view_is in
    let end : c.loop-place.place ≡ length (get_or m.sets q []) = omega (arith, ap length set) in
    GainEach-as (FlowsOf m q)
    (subst (λ (k : ℕ). GainEach (IsOfFirst k (λ k. FlowsFrom m q (get_or (get_or m.sets q []) k 0)))
    c.args.equations.now c.loop-place.equations) end c.loop-place.invariant.flows)
    (flows_each m _ _ _ h q)
