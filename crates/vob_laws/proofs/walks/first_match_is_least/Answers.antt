-- By the order of the indices.
use Rattle.vob_walk.proofs.IndexLemmas.{matches-first}
use Rattle.vob_laws.proofs.walks.first_match_is_least.Goals as goal

pub returns : goal.returns
returns c = matches-first
