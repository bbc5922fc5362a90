-- Each turn leads paths through one node more.
use Rattle.std.proofs.Common.{◌∙◌, refl, arith}
use Rattle.vob_matrix.proofs.PathLemmas.{AreClosedWithin-start, AreClosedWithin-more}
use Rattle.vob_matrix.proofs.closing.close_within.Goals as goal

pub loop-through-init : goal.loop-through-init
loop-through-init c = record { closed = AreClosedWithin-start _ _ _; columns = refl }

pub loop-through-preserved : goal.loop-through-preserved
loop-through-preserved c = record {
  closed = AreClosedWithin-more _ _ _ _ _ c.loop-through.through (omega arith) (omega arith)
      c.loop-through.invariant.closed c.lead_through.ensures.led;
  columns = c.lead_through.ensures.columns ∙ c.loop-through.invariant.columns;
}
