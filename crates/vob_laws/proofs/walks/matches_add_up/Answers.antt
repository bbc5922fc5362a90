-- By the indices, one after another.
use Rattle.vob_walk.proofs.MatchesLemmas.{length-matches_both}
use Rattle.vob_laws.proofs.walks.matches_add_up.Goals as goal

pub returns : goal.returns
returns c = length-matches_both
