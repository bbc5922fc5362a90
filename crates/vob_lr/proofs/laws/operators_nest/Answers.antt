-- The law, by the states in which nodes begin and end.
use Rattle.vob_lr.proofs.NestingLemmas as lemmas
use Rattle.vob_lr.proofs.laws.operators_nest.Goals as goal

pub returns : goal.returns
returns c = lemmas.operators_nest
