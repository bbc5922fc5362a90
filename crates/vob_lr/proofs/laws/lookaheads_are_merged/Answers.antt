-- The law, by what is valid after the symbols that lead to a state.
use Rattle.vob_lr.proofs.CanonicalLemmas as lemmas
use Rattle.vob_lr.proofs.laws.lookaheads_are_merged.Goals as goal

pub returns : goal.returns
returns c = lemmas.lookaheads_are_merged
