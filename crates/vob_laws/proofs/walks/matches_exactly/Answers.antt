-- By the tests of the range and of the bit.
use Rattle.vob_walk.proofs.IndexLemmas.{matches-exactly}
use Rattle.vob_laws.proofs.walks.matches_exactly.Goals as goal

pub returns : goal.returns
returns c = matches-exactly
