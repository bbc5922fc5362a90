-- The law, by chains of edges along each path.
use Rattle.files_graph.proofs.KeepsLemmas.{reduction_keeps}
use Rattle.files_graph.proofs.laws.reduction_keeps_closure.Goals as goal

pub returns : goal.returns
returns c = reduction_keeps
