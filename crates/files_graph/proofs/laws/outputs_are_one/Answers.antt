-- The law, by the one order of what is listed.
use Rattle.files_graph.proofs.OneOutputLemmas.{outputs_one}
use Rattle.files_graph.proofs.laws.outputs_are_one.Goals as goal

pub returns : goal.returns
returns c = outputs_one
