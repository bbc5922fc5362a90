-- The law, by the one way that a parser takes.
use Rattle.vob_lr.proofs.LanguageLemmas as lemmas
use Rattle.vob_lr.proofs.laws.too_long_is_no_sentence.Goals as goal

pub returns : goal.returns
returns c = lemmas.too_long_is_no_sentence
