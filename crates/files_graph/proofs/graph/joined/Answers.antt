-- The graph has the edges that join names by their numbers.
use Rattle.std.proofs.Common.{◌∙◌}
use Rattle.files_graph.proofs.GraphLemmas.{has_graph}
use Rattle.files_graph.proofs.graph.joined.Goals as goal

pub graph_of-requires : goal.graph_of-requires
graph_of-requires c n m there = rw c.len.ensures (c.requires n m (rw c.deref.ensures.value at there))

pub returns : goal.returns
returns c = λ notation text has.
    has_graph has _ (rw (c.len.ensures, c.deref.ensures.value) at c.in_ok-next.ensures.each)
    (c.in_ok-next.ensures.nodes ∙ c.len.ensures)
