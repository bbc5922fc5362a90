-- No bit is put behind the others.
use Rattle.vob_laws.proofs.MoveLawsLemmas.{rotated-lengths}
use Rattle.vob_laws.proofs.shifts.rotate_by_lengths.Goals as goal

pub returns : goal.returns
returns c = rotated-lengths
