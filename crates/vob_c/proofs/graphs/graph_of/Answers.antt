-- The lists of the edges are those of the arrays.
use Rattle.std.proofs.Common.{◌∙◌, ap}
use Rattle.vob_rows.specs.Graph.{lists_from}
use Rattle.vob_c.proofs.GraphLemmas.{edges_all, lists_count}
use Rattle.vob_c.proofs.graphs.graph_of.Goals as goal

pub returns-in-Ok-clause-lists : goal.returns-in-Ok-clause-lists
returns-in-Ok-clause-lists c =
    c.in-Ok.ensures.edges ∙ ap (lists_from c.args.nodes) c.deref.ensures.value
    ∙ edges_all _ c.args.nodes _ (lists_count c.args.nodes c.args.offsets.now c.args.ends.now c.requires.offsets)
    c.in_ok-edges.ensures
