-- By the bits, one after another.
use Rattle.vob.proofs.PairLemmas.{without-and}
use Rattle.vob_laws.proofs.sets.difference_is_and_not.Goals as goal

pub returns : goal.returns
returns c = without-and
