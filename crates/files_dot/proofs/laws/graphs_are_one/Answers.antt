-- The law, by the one run of a reader over words.
use Rattle.files_dot.proofs.OneGraphLemmas.{graphs_one}
use Rattle.files_dot.proofs.laws.graphs_are_one.Goals as goal

pub returns : goal.returns
returns c = graphs_one
