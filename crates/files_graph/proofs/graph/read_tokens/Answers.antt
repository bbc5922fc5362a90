-- The numbers of the names of edges are nodes.
use Rattle.files_dot.specs.declared.notation.Notation.TheVariants.{Dot}
use Rattle.files_dot.proofs.PairLemmas.{pairs_inside}
use Rattle.files_graph.proofs.GraphLemmas.{dot_pairs}
use Rattle.files_graph.proofs.graph.read_tokens.Goals as goal

pub joined-requires : goal.joined-requires
joined-requires c =
    let graph = c.in_ok-read.ensures.ok in
    pairs_inside graph.part.mentions _ graph.part.edges _ graph.named graph.numbers

pub returns-clause-ok : goal.returns-clause-ok
returns-clause-ok c = λ text are. c.in_ok-graph.ensures Dot text (dot_pairs are c.in_ok-read.ensures.ok)
