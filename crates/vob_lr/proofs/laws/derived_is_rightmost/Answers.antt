-- The law, by what symbols become.
use Rattle.vob_lr.proofs.RightmostLemmas as lemmas
use Rattle.vob_lr.proofs.laws.derived_is_rightmost.Goals as goal

pub returns : goal.returns
returns c = lemmas.derived_is_rightmost
