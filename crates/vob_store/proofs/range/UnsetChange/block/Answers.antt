-- By the places of the operators.
use Rattle.vob_store.proofs.RangeLemmas.{HasPlaces-unset}
use Rattle.vob_store.proofs.range.UnsetChange.block.Goals as goal

pub returns-clause-places : goal.returns-clause-places
returns-clause-places g c = HasPlaces-unset _ _ _ _ _ c.bnot.ensures.places c.band.ensures.places
