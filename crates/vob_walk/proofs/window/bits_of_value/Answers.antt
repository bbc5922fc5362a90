-- The block as it is, or negated.
use Rattle.vob_walk.proofs.ScanLemmas.{HasPlaces-same, HasPlaces-other}
use Rattle.vob_walk.proofs.window.bits_of_value.Goals as goal

pub returns-then-value-clause-places : goal.returns-then-value-clause-places
returns-then-value-clause-places g c = HasPlaces-same _ _ _ c.if-value.true

pub returns-else-value-clause-places : goal.returns-else-value-clause-places
returns-else-value-clause-places g c = HasPlaces-other _ _ _ _ c.if-value.false
    c.bnot.ensures.places
