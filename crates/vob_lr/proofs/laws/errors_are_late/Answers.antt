-- The law, by what stands ahead of each state.
use Rattle.vob_lr.proofs.PrefixLemmas as lemmas
use Rattle.vob_lr.proofs.laws.errors_are_late.Goals as goal

pub returns : goal.returns
returns c = lemmas.errors_are_late
