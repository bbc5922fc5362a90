-- Pull by pull.
use Rattle.vob_laws.proofs.RunPullsLemmas.{runs_given}
use Rattle.vob_laws.proofs.walks.runs_are_given_once.Goals as goal

pub returns : goal.returns
returns c = runs_given
