-- By the index that each bit comes from.
use Rattle.vob_laws.proofs.MoveLawsLemmas.{rotated-rotated}
use Rattle.vob_laws.proofs.shifts.rotations_add.Goals as goal

pub returns : goal.returns
returns c = rotated-rotated
