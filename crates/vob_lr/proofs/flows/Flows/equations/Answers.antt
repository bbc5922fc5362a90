-- Sets that were empty have what flows to them.
use Rattle.std.proofs.Common.{◌∙◌, ap, subst}
use Rattle.vob_lr.specs.Flows.{FlowsTo, HasTables}
use Rattle.vob_lr.specs.Lookaheads.{Machine}
use Rattle.vob_lr.specs.Nodes.{member_total}
use Rattle.vob_lr.specs.declared.grammar.Grammar.{Grammar}
use Rattle.vob_lr.proofs.EquationLemmas.{AreEquations-gained, GainEach-as}
use Rattle.vob_lr.proofs.FlowLemmas.{flows_all}
use Rattle.vob_lr.proofs.flows.Flows.equations.Goals as goal

pub returns : goal.returns
returns c =
    let m = c.args.self.now in
    let h = subst (λ (z : Machine). HasTables z c.self.inside.nullable.now.bits
    c.self.inside.first.now.rows c.self.inside.opens.now.starts) c.self.view_is
    c.self.invariant in
    let total = ap (λ (z : Machine). member_total z.sets) c.self.view_is in
    let here = ap (λ (g : Grammar). g.terminals) c.grammar.ensures
    ∙ ap (λ (z : Machine). z.grammar.terminals) c.self.view_is in
    let made = c.in_ok-equations.ensures in
    AreEquations-gained (member_total m.sets) m.grammar.terminals
    (rw (c.len.ensures, total, here) at made.starts) (made.places ∙ here) made.edges
    (GainEach-as (FlowsTo m) c.in_ok-flow_all.ensures (flows_all m _ _ _ h))
