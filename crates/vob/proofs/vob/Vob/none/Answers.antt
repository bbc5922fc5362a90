-- Every bit has the other value where none with this one was found.
use Rattle.vob.proofs.SetsLemmas.{HasBit-missed, HasOnly-none, replicate-none}
use Rattle.vob.proofs.vob.Vob.none.Goals as goal

pub returns-clause-answer : goal.returns-clause-answer
returns-clause-answer g c = HasOnly-none _ _ _ c.first_set.ensures.next _ c.is_none.ensures

pub returns-clause-list : goal.returns-clause-list
returns-clause-list g c = replicate-none _ _ _ c.first_set.ensures.next _ c.is_none.ensures

pub returns-clause-set : goal.returns-clause-set
returns-clause-set g c = HasBit-missed _ _ _ c.first_set.ensures.next _ c.is_none.ensures
