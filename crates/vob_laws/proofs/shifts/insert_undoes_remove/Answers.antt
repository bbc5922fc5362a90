-- The parts below and above the bit are put around it.
use Rattle.vob_laws.proofs.MoveLawsLemmas.{inserted-removed}
use Rattle.vob_laws.proofs.shifts.insert_undoes_remove.Goals as goal

pub returns : goal.returns
returns c = inserted-removed
