-- The law, by the one way that a parser takes.
use Rattle.vob_lr.proofs.ExpectedLemmas as lemmas
use Rattle.vob_lr.proofs.laws.expected_are_all.Goals as goal

pub returns : goal.returns
returns c = lemmas.expected_are_all
