-- Every run gives what is left.
use Rattle.vob_walk.proofs.WalkLemmas.{walk_runs, walk_runs_back}
use Rattle.vob_walk.proofs.index.IterUnsetBits.over.Goals as goal

pub returns-clause-runs : goal.returns-clause-runs
returns-clause-runs g c = walk_runs

pub returns-clause-runs_back : goal.returns-clause-runs_back
returns-clause-runs_back g c = walk_runs_back
