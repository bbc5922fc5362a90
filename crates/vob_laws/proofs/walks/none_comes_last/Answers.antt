-- A pull that gives nothing is at an empty list.
use Rattle.vob_walk.proofs.OnceLemmas as lemma
use Rattle.vob_laws.proofs.walks.none_comes_last.Goals as goal

pub returns : goal.returns
returns c = lemma.none_comes_last
