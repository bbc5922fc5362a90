-- Row after row is added, if it is named.
use Rattle.vob_c.proofs.LinkingLemmas.{IsRowLinked-start}
use Rattle.vob_c.proofs.products.link_row.Goals as goal

pub loop-k-init : goal.loop-k-init
loop-k-init c = record { canonical = c.requires.made; linked = IsRowLinked-start _ _ _ _ }

pub loop-k-preserved : goal.loop-k-preserved
loop-k-preserved c = record {
  canonical = c.add_named.ensures.canonical;
  linked = c.add_named.ensures.linked _ c.loop-k.invariant.linked;
}
