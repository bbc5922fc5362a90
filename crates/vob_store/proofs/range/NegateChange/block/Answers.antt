-- By the places of the operator.
use Rattle.vob_store.proofs.RangeLemmas.{HasPlaces-negated}
use Rattle.vob_store.proofs.range.NegateChange.block.Goals as goal

pub returns-clause-places : goal.returns-clause-places
returns-clause-places g c = HasPlaces-negated _ _ _ _ c.bxor.ensures.places
