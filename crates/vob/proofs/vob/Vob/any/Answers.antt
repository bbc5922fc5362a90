-- Some bit is set where the first set one was found.
use Rattle.vob.proofs.SetsLemmas.{HasBit-found, HasOnly-missed, not_replicate-found}
use Rattle.vob.proofs.vob.Vob.any.Goals as goal

pub returns-clause-answer : goal.returns-clause-answer
returns-clause-answer g c = HasBit-found _ _ _ c.first_set.ensures.next _ c.is_some.ensures

pub returns-clause-list : goal.returns-clause-list
returns-clause-list g c = not_replicate-found _ _ _ c.first_set.ensures.next _ c.is_some.ensures

pub returns-clause-unset : goal.returns-clause-unset
returns-clause-unset g c = HasOnly-missed _ _ _ c.first_set.ensures.next _ c.is_some.ensures
