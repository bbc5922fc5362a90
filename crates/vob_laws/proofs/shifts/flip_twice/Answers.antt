-- The bit is written twice, and the others not at all.
use Rattle.vob_laws.proofs.MoveLawsLemmas.{flipped-flipped}
use Rattle.vob_laws.proofs.shifts.flip_twice.Goals as goal

pub returns : goal.returns
returns c = flipped-flipped
