-- The law, by the one way that a parser takes.
use Rattle.vob_lr.proofs.LanguageLemmas as lemmas
use Rattle.vob_lr.proofs.laws.accepted_are_sentences.Goals as goal

pub returns : goal.returns
returns c = lemmas.accepted_are_sentences
