-- The law, by the one way that a parser takes.
use Rattle.vob_lr.proofs.LanguageLemmas as lemmas
use Rattle.vob_lr.proofs.laws.sentences_have_one_parse.Goals as goal

pub returns : goal.returns
returns c = lemmas.sentences_have_one_parse
