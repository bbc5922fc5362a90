-- The law, from the last rule on.
use Rattle.vob_lr.proofs.TreeLemmas as lemmas
use Rattle.vob_lr.proofs.laws.parses_have_one_tree.Goals as goal

pub returns : goal.returns
returns c = lemmas.parses_have_one_tree
