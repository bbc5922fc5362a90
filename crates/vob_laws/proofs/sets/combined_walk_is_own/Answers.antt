-- A walk that has given nothing and read nothing is what its bits make it.
use Rattle.vob_walk.proofs.WalkLemmas.{IsFresh-same}
use Rattle.vob_laws.proofs.sets.combined_walk_is_own.Goals as goal

pub returns : goal.returns
returns c = λ f bits others after width walk own left fresh own_fresh. IsFresh-same fresh
    (rw left at own_fresh)
