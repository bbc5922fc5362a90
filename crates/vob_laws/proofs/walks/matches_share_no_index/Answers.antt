-- By what the bit at the index is.
use Rattle.vob_walk.proofs.MatchesLemmas.{matches-apart}
use Rattle.vob_laws.proofs.walks.matches_share_no_index.Goals as goal

pub returns : goal.returns
returns c = matches-apart
