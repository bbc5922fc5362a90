-- By the first place at which the lists differ.
use Rattle.vob_laws.proofs.ChangeLemmas.{unequal_decides}
use Rattle.vob_laws.proofs.lists.unequal_where_places_differ.Goals as goal

pub returns : goal.returns
returns c = unequal_decides
