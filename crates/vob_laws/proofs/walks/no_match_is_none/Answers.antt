-- By what is in no list.
use Rattle.vob_walk.proofs.IndexLemmas.{matches-none}
use Rattle.vob_laws.proofs.walks.no_match_is_none.Goals as goal

pub returns : goal.returns
returns c = matches-none
