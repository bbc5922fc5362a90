-- Each row has its turn.
use Rattle.vob_matrix.proofs.UnionLemmas.{IsLedThrough-start}
use Rattle.vob_c.proofs.GainLemmas.{HaveGained-same, HaveGained-trans}
use Rattle.vob_c.proofs.matrices.lead_through.Goals as goal

pub loop-row-init : goal.loop-row-init
loop-row-init c = record {
  canonical = c.requires.canonical;
  led = IsLedThrough-start _ _ _;
  gained = HaveGained-same _;
}

pub loop-row-preserved : goal.loop-row-preserved
loop-row-preserved c = record {
  canonical = c.lead_row-changed.ensures.canonical;
  led = c.lead_row-changed.ensures.led _ c.loop-row.invariant.led;
  gained = HaveGained-trans _ _ _ _ _ c.loop-row.invariant.gained c.lead_row-changed.ensures.gained;
}
