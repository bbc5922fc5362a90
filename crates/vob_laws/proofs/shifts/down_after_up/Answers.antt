-- The bits that are left stand behind the unset ones that came in.
use Rattle.vob_laws.proofs.MoveLawsLemmas.{moved_down-moved_up}
use Rattle.vob_laws.proofs.shifts.down_after_up.Goals as goal

pub returns : goal.returns
returns c = moved_down-moved_up
