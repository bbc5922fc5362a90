-- By the bits, one after another.
use Rattle.vob_walk.proofs.IndexLemmas.{matches-count}
use Rattle.vob_laws.proofs.walks.matches_are_counted.Goals as goal

pub returns : goal.returns
returns c = matches-count
