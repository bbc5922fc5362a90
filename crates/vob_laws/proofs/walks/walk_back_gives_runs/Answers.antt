-- What is left is the list of the runs.
use Rattle.vob_laws.proofs.RunPullsLemmas.{AreRuns-walk_back}
use Rattle.vob_laws.proofs.walks.walk_back_gives_runs.Goals as goal

pub returns : goal.returns
returns c = AreRuns-walk_back
