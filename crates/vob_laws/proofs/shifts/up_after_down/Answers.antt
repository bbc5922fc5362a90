-- The bits that are left stand before the unset ones that came in.
use Rattle.vob_laws.proofs.MoveLawsLemmas.{moved_up-moved_down}
use Rattle.vob_laws.proofs.shifts.up_after_down.Goals as goal

pub returns : goal.returns
returns c = moved_up-moved_down
