-- The law, by the one way that a parser takes.
use Rattle.vob_lr.proofs.FollowedLemmas as lemmas
use Rattle.vob_lr.proofs.laws.nested_are_parsed.Goals as goal

pub returns : goal.returns
returns c = lemmas.nested_are_parsed
