-- A bit of the negated list is the bit negated.
use Rattle.vob.proofs.RoomLemmas.{IsMaximalRun-negated}
use Rattle.vob_laws.proofs.sets.unset_runs_are_maximal.Goals as goal

pub returns : goal.returns
returns c = IsMaximalRun-negated
