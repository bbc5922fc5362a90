-- The law, by rightmost derivations.
use Rattle.vob_lr.proofs.RightmostLemmas as lemmas
use Rattle.vob_lr.proofs.laws.sentences_have_parses.Goals as goal

pub returns : goal.returns
returns c = lemmas.sentences_have_parses
