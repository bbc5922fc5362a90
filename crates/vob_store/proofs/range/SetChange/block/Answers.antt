-- By the places of the operator.
use Rattle.vob_store.proofs.RangeLemmas.{HasPlaces-set}
use Rattle.vob_store.proofs.range.SetChange.block.Goals as goal

pub returns-clause-places : goal.returns-clause-places
returns-clause-places g c = HasPlaces-set _ _ _ _ c.bor.ensures.places
