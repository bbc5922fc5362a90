-- The law, by an edge of the others for each of the reduction.
use Rattle.files_graph.proofs.LeastLemmas.{reduction_least}
use Rattle.files_graph.proofs.laws.reduction_is_least.Goals as goal

pub returns : goal.returns
returns c = reduction_least
