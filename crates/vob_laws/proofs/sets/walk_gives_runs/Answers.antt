-- By one run after another.
use Rattle.vob_walk.proofs.RunListLemmas.{AreRuns-walk}
use Rattle.vob_laws.proofs.sets.walk_gives_runs.Goals as goal

pub returns : goal.returns
returns c = AreRuns-walk
