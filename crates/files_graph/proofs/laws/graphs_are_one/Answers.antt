-- The law, by the one list of a text's words.
use Rattle.files_graph.proofs.OneOutputLemmas.{graphs_one}
use Rattle.files_graph.proofs.laws.graphs_are_one.Goals as goal

pub returns : goal.returns
returns c = graphs_one
