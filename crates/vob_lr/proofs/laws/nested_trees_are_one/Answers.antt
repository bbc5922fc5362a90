-- The law, by the one way to read trees from their leaves.
use Rattle.vob_lr.proofs.OperatorLemmas as lemmas
use Rattle.vob_lr.proofs.laws.nested_trees_are_one.Goals as goal

pub returns : goal.returns
returns c = lemmas.nested_trees_are_one
