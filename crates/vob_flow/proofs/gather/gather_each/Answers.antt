-- All sets are gathered.
use Rattle.std.proofs.Common.{◌∙◌, [], get_or, refl, arith}
use Rattle.vob_flow.specs.Draws.{IsInSome}
use Rattle.vob_flow.proofs.ChangesLemmas.{EachGets-next, EachGets-none}
use Rattle.vob_flow.proofs.GatherLemmas.{AreGathered-all}
use Rattle.vob_flow.proofs.gather.gather_each.Goals as goal

pub loop-sum-init : goal.loop-sum-init
loop-sum-init c = (EachGets-none _ _, refl)

pub loop-sum-preserved : goal.loop-sum-preserved
loop-sum-preserved c = (
  EachGets-next (λ n v. IsInSome c.args.sets.now.rows (get_or c.args.graph.now n []) v)
      c.loop-sum.invariant.0 (rw c.next.ensures.ends at c.gather.ensures.got),
  c.gather.ensures.columns ∙ c.loop-sum.invariant.1,
)

pub returns-clause-gathered : goal.returns-clause-gathered
returns-clause-gathered c = AreGathered-all c.args.graph.now c.args.sets.now.rows
    c.args.sums.now.rows _ c.loop-sum.sum (omega arith) (omega (arith, c.requires.count))
    c.requires.empty c.loop-sum.invariant.0
