-- The law, by the items that are valid before a handle ends.
use Rattle.vob_lr.proofs.HandleLemmas as lemmas
use Rattle.vob_lr.proofs.laws.reductions_are_of_handles.Goals as goal

pub returns : goal.returns
returns c = lemmas.reductions_are_of_handles
