-- The law, by derivations.
use Rattle.vob_lr.proofs.DerivationLemmas.{following_derived}
use Rattle.vob_lr.proofs.laws.following_is_derived.Goals as goal

pub returns : goal.returns
returns c = following_derived
