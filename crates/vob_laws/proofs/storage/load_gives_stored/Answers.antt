-- Both have the same places, below the number of bits and above it.
use Rattle.vob_laws.proofs.PackingLawsLemmas.{loaded-stored}
use Rattle.vob_laws.proofs.storage.load_gives_stored.Goals as goal

pub returns : goal.returns
returns c = loaded-stored
