-- By the order of the indices that are looked at.
use Rattle.vob_walk.proofs.IndexLemmas.{matches-rise}
use Rattle.vob_laws.proofs.walks.matches_rise.Goals as goal

pub returns : goal.returns
returns c = matches-rise
