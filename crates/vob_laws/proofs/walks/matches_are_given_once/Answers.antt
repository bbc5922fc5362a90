-- All that matches is what was left at first.
use Rattle.vob_walk.proofs.OnceLemmas.{matches-given_once}
use Rattle.vob_laws.proofs.walks.matches_are_given_once.Goals as goal

pub returns : goal.returns
returns c = matches-given_once
