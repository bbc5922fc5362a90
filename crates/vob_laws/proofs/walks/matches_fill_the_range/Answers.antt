-- By what the bit at the index is.
use Rattle.vob_walk.proofs.MatchesLemmas.{matches-combined}
use Rattle.vob_laws.proofs.walks.matches_fill_the_range.Goals as goal

pub returns : goal.returns
returns c = matches-combined
