-- The law, by derivations.
use Rattle.vob_lr.proofs.DerivationLemmas.{beginning_derived}
use Rattle.vob_lr.proofs.laws.beginning_is_derived.Goals as goal

pub returns : goal.returns
returns c = beginning_derived
