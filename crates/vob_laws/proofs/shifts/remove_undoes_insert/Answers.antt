-- The parts below and above the bit are put together.
use Rattle.vob_laws.proofs.MoveLawsLemmas.{removed-inserted}
use Rattle.vob_laws.proofs.shifts.remove_undoes_insert.Goals as goal

pub returns : goal.returns
returns c = removed-inserted
