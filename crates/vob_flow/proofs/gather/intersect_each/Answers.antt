-- One set more is what is in each of its sets.
use Rattle.std.proofs.Common.{◌∙◌, [], get_or, refl}
use Rattle.vob_flow.specs.Greatest.{IsInAll}
use Rattle.vob_flow.proofs.ChangesLemmas.{EachBecomes-next, EachBecomes-none}
use Rattle.vob_flow.proofs.gather.intersect_each.Goals as goal

pub loop-common-init : goal.loop-common-init
loop-common-init c = (EachBecomes-none _ _, refl)

pub loop-common-preserved : goal.loop-common-preserved
loop-common-preserved c = (
  EachBecomes-next (λ n. IsInAll c.args.sets.now.rows (get_or c.args.graph.now n []))
      c.loop-common.invariant.0 (rw c.next.ensures.ends at c.intersect.ensures.common)
      (λ row v. ((λ all. all), (λ all. all))),
  c.intersect.ensures.columns ∙ c.loop-common.invariant.1,
)
