-- The law, by the one way that a parser takes.
use Rattle.vob_lr.proofs.LanguageLemmas as lemmas
use Rattle.vob_lr.proofs.laws.errors_are_early.Goals as goal

pub returns : goal.returns
returns c = lemmas.errors_are_early
