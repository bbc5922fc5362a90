-- The law, by what symbols become.
use Rattle.vob_lr.proofs.TreeLemmas as lemmas
use Rattle.vob_lr.proofs.laws.parses_have_trees.Goals as goal

pub returns : goal.returns
returns c = lemmas.parses_have_trees
