-- Pull by pull.
use Rattle.vob_walk.proofs.OnceLemmas.{given-once}
use Rattle.vob_laws.proofs.walks.each_is_given_once.Goals as goal

pub returns : goal.returns
returns c = given-once
