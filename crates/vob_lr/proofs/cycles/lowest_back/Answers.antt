-- From one node more no edge leads back.
use Rattle.std.proofs.Common.{◌≡◌, ◌∙◌, arith, inl, inr, subst, sym}
use Rattle.std.proofs.lemmas.Bool.{cases_lt, false≢true}
use Rattle.vob_lr.specs.Units.{LeadsBack}
use Rattle.vob_lr.proofs.cycles.lowest_back.Goals as goal

pub loop-node-preserved : goal.loop-node-preserved
loop-node-preserved c = λ n less back. elim (cases_lt n c.loop-node.node) [
  | inl low ↦ c.loop-node.invariant n low back
  | inr past ↦
      let here : n ≡ c.loop-node.node = omega (arith, less, past) in
      false≢true (sym c.if-leads_back.false ∙ c.leads_back.ensures.1
      (subst (LeadsBack c.args.graph.now c.args.roots.now) here back))
]

pub returns-clause-none : goal.returns-clause-none
returns-clause-none c = λ n less.
    c.loop-node.invariant n (omega (arith, less, c.loop-node-test.false, c.nodes-node-end.ensures.count))
