-- The two parts are put together as they were.
use Rattle.vob_laws.proofs.MoveLawsLemmas.{rotated-back}
use Rattle.vob_laws.proofs.shifts.rotate_back.Goals as goal

pub returns : goal.returns
returns c = rotated-back
