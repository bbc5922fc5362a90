-- The law, by derivations.
use Rattle.vob_lr.proofs.DerivationLemmas.{empty_derived}
use Rattle.vob_lr.proofs.laws.empty_is_derived.Goals as goal

pub returns : goal.returns
returns c = empty_derived
