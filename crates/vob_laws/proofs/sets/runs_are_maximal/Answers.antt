-- By one run after another.
use Rattle.vob_walk.proofs.RunListLemmas.{AreRuns-only}
use Rattle.vob_laws.proofs.sets.runs_are_maximal.Goals as goal

pub returns : goal.returns
returns c = AreRuns-only
