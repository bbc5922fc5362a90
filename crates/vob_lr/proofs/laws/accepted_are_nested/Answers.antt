-- The law, by the parser that follows a tree.
use Rattle.vob_lr.proofs.FollowedLemmas as lemmas
use Rattle.vob_lr.proofs.laws.accepted_are_nested.Goals as goal

pub returns : goal.returns
returns c = lemmas.accepted_are_nested
