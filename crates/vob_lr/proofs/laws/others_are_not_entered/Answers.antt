-- The law, by the moves of a sound table.
use Rattle.vob_lr.proofs.EnteredLemmas as lemmas
use Rattle.vob_lr.proofs.laws.others_are_not_entered.Goals as goal

pub returns : goal.returns
returns c = lemmas.others_are_not_entered
