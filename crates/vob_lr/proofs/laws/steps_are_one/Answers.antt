-- The law, by the one move of a state by a symbol.
use Rattle.vob_lr.proofs.FateLemmas as lemmas
use Rattle.vob_lr.proofs.laws.steps_are_one.Goals as goal

pub returns : goal.returns
returns c = lemmas.steps_are_one
