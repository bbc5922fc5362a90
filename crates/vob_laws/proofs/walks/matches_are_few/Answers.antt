-- By the indices that are looked at.
use Rattle.vob_walk.proofs.MatchesLemmas.{length-matches-le}
use Rattle.vob_laws.proofs.walks.matches_are_few.Goals as goal

pub returns : goal.returns
returns c = λ bits value low high. length-matches-le bits low high value
