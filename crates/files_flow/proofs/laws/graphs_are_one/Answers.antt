-- The law, by the one list of a text's words, and one number for each name.
use Rattle.files_flow.proofs.SameGraphLemmas.{graphs_one}
use Rattle.files_flow.proofs.laws.graphs_are_one.Goals as goal

pub returns : goal.returns
returns c = graphs_one
